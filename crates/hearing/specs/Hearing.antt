-- What H counts on, and what it leaves.
use Rattle.std.specs.Prelude.{◌≡◌, refl, Bool, true, false, not, cond, ◌||◌, List, ◌≢◌, ℕ, zero, suc, ◌+◌, ◌-◌, ◌≤◌, ◌<◌, max, length, ◌==◌}
use Rattle.std.proofs.Common.{sym, ◌∙◌, arith}
use Rattle.std.proofs.Math.Path.{ap}
use Rattle.std.proofs.Math.Bool.{or-true}
use borrow.Author.Tests.{leb-false, le-leb, lt-leb, lt-ltb, le-ltb, eq-eqb, ne_eqb}
use Rattle.base.specs.Choice.{◌≤?◌, ◌<?◌, or_left, or_right}
use Rattle.base.specs.Cases.{Case, first_of, none, hit, skip}
use Rattle.table.specs.Field.{Field, State, Known, End, Size, Incarnation, LiveCount, Flag, same}
use Rattle.table.specs.Change.{put, put_ind, put_other}
use Rattle.table.specs.Layout.{controllers, incarnations, table_words}
use Rattle.table.specs.Words.{state, words, Agree}
use Rattle.table.proofs.Words.{words_same, agree_words, agree_put, put_again, then_put}
use Rattle.table.specs.Numbering.{number_of}
use Rattle.table.proofs.Numbering.{number_same}
use Rattle.rules.specs.Limits.{house, last_incarnation}
use Rattle.rules.specs.Refusal.{CONTROLLER, NO_SUCH_CRASH, ALREADY_HEARD, INCARNATIONS_USED_UP}
use Rattle.rules.specs.Shared.{latest_flagged, replayed}
use Rattle.rules.specs.Steps.{no_controller, hear_refusals, noted, lowest_condemned, rolled_back, hear}
use Rattle.rules.specs.Step.{out, written}
use Rattle.rules.specs.declared.Answer.{Answer}
use Rattle.rules.specs.declared.Answer.TheVariants.{Heard, Rolled, Refused}
use Rattle.laws.specs.Facts.{form, below_8}
use Rattle.laws.specs.Allowed.{hear_allowed}
use Rattle.laws.specs.Numbers.{numbers_noted, room_live}
use Rattle.laws.specs.Agree.{lowest_condemned_same, replayed_same}
use Rattle.laws.specs.Found.{lowest}
use Rattle.laws.specs.Answering.{Lent}
use Rattle.laws.specs.Chain.{Chain, chain_of_lem, chain_words_lem, Starts, chain_noted}
use Rattle.laws.specs.Kept.{agree_rolled}
use Rattle.hearing.specs.Rolling.{undoing}

-- NOTING
-- two words were put, one after the other
pub takes_back : (t t₁ t₂ : List ℕ) (f g : Field) (x y : ℕ) → t₁ ≡ words (put (state t) f x) → t₂ ≡ words (put (state t₁) g y) → t₂ ≡ words (put (put (state t) f x) g y)
takes_back t t₁ t₂ f g x y e₁ e₂ = then_put _ g y e₁ e₂

-- the known word is raised, or it is high enough
pub note_raised : (t t₁ t₂ : List ℕ) (hearer owner i end known : ℕ) → end ≡ state t (End owner owner i) → known ≡ state t (Known hearer owner i) →
    t₁ ≡ words (put (state t) (End hearer owner i) end) → known < end → t₂ ≡ words (put (state t₁) (Known hearer owner i) end) → t₂ ≡ words (noted (state t) hearer owner i)
unfolding noted
note_raised t t₁ t₂ hearer owner i end known ee ek e₁ l e₂ =
    let larger : end ≡ max (state t (Known hearer owner i)) (state t (End owner owner i)) = omega arith in
    then_put _ (Known hearer owner i) end e₁ e₂ ∙ (λ d. words (put (put (state t) (End hearer owner i) (ee d)) (Known hearer owner i) (larger d)))

pub note_enough : (t t₁ : List ℕ) (hearer owner i end known : ℕ) → end ≡ state t (End owner owner i) → known ≡ state t (Known hearer owner i) →
    t₁ ≡ words (put (state t) (End hearer owner i) end) → end ≤ known → t₁ ≡ words (noted (state t) hearer owner i)
unfolding noted put same
note_enough t t₁ hearer owner i end known ee ek e₁ l =
    let larger : max (state t (Known hearer owner i)) (state t (End owner owner i)) ≡ state t (Known hearer owner i) = omega arith in
    e₁ ∙ ap (λ x. words (put (state t) (End hearer owner i) x)) ee ∙ words_same _ _ (put_again (put (state t) (End hearer owner i) (state t (End owner owner i))) (Known hearer owner i) _ larger)

-- two words put that get their old values back change no word
put_back : (σ : State) (f g : Field) (x y : ℕ) → Agree (put (put (put (put σ f x) g y) f (σ f)) g (σ g)) σ
put_back σ f g x y h v =
    put_ind (λ h z. z ≡ σ h) (put (put (put σ f x) g y) f (σ f)) g (σ g) refl
    (λ h ng. put_ind (λ h z. h ≢ g → z ≡ σ h) (put (put σ f x) g y) f (σ f) (λ _. refl) (λ h nf ng. put_other (put σ f x) g h y ng ∙ put_other σ f h x nf) h ng) h

-- what is noted changes no number, and so not what is replayed
noted_flagged : (σ : State) (hearer owner i c k : ℕ) → latest_flagged (noted σ hearer owner i) c k ≡ latest_flagged σ c k
unfolding latest_flagged noted put same
noted_flagged σ hearer owner i c zero = refl
noted_flagged σ hearer owner i c (suc p) =
    λ d. cond (σ (Flag c p) == 1) ((numbers_noted σ hearer owner i).number c (p + 1) d) (noted_flagged σ hearer owner i c p d)

noted_replayed : (σ : State) (hearer owner i c k : ℕ) → replayed (noted σ hearer owner i) c k ≡ replayed σ c k
unfolding replayed
noted_replayed σ hearer owner i c k d = (numbers_noted σ hearer owner i).number c k d - noted_flagged σ hearer owner i c k d

-- HEARING
-- The code has read n, how many controllers there are, and the end words of both: which of the first refusals applies.
module _ (t : List ℕ) (hearer owner i n : ℕ) (en : n ≡ state t Size) where
  abbrev cases : List Case
  cases = hear_refusals (state t) hearer owner i

  named_as : (b : Bool) → ((n ≤? hearer) || (n ≤? owner)) ≡ b → (no_controller (state t) hearer || no_controller (state t) owner) ≡ b
  named_as b h = ap (λ n. (n ≤? hearer) || (n ≤? owner)) (sym en) ∙ h

  pub hear_unknown : ((n ≤? hearer) || (n ≤? owner)) ≡ true → CONTROLLER ≡ first_of cases
  hear_unknown h = hit _ _ _ (named_as true h)

  module _ (h : ((n ≤? hearer) || (n ≤? owner)) ≡ false) where
    pub hearer_named : Lent t → hearer < controllers
    hearer_named w = below_8 (form house (state t) w.good) hearer (leb-false _ _ (or_left (no_controller (state t) hearer) _ (named_as false h)))

    pub owner_named : Lent t → owner < controllers
    owner_named w = below_8 (form house (state t) w.good) owner (leb-false _ _ (or_right (no_controller (state t) hearer) _ (named_as false h)))

    pub hear_beyond : last_incarnation < i → NO_SUCH_CRASH ≡ first_of cases
    hear_beyond l = skip _ _ _ _ (named_as false h) (hit _ _ _ (rw (lt-ltb last_incarnation i l)))

    module _ (l : i ≤ last_incarnation) (end : ℕ) (ee : end ≡ state t (End owner owner i)) where
      pub hear_unended : end ≡ 0 → NO_SUCH_CRASH ≡ first_of cases
      hear_unended z = skip _ _ _ _ (named_as false h) (hit _ _ _ (rw (eq-eqb (state t (End owner owner i)) 0 (sym ee ∙ z)) (or-true (last_incarnation <? i))))

      module _ (ne : end ≢ 0) (heard : ℕ) (eh : heard ≡ state t (End hearer owner i)) where
        ended : ((last_incarnation <? i) || (state t (End owner owner i) == 0)) ≡ false
        ended = rw (le-ltb last_incarnation i l, ne_eqb (state t (End owner owner i)) 0 (λ z. ne (ee ∙ z)))

        pub hear_again : heard ≢ 0 → ALREADY_HEARD ≡ first_of cases
        hear_again nh = skip _ _ _ _ (named_as false h) (skip _ _ _ _ ended (hit _ _ _ (ap not (ne_eqb _ _ (λ z. nh (eh ∙ z))))))

        pub hear_free : heard ≡ 0 → 0 ≡ first_of cases
        hear_free z = skip _ _ _ _ (named_as false h) (skip _ _ _ _ ended (skip _ _ _ _ (ap not (eq-eqb _ _ (sym eh ∙ z))) none))

-- a hearing that none of its first refusals stops
pub record Hears (t : List ℕ) (hearer owner i : ℕ) : Type 0 where
  pub long : length t ≡ table_words
  pub chain : Chain (state t) hearer
  pub owner_lt : owner < controllers
  pub incarnation_lt : i < incarnations
  pub unheard : state t (End hearer owner i) ≡ 0

pub hears : (t : List ℕ) (hearer owner i : ℕ) → Lent t → 0 ≡ first_of (hear_refusals (state t) hearer owner i) → Hears t hearer owner i
hears t hearer owner i l e =
    let h = hear_allowed (state t) hearer owner i e in
    record {
      long = l.long;
      chain = chain_of_lem t hearer l h.hearer_lt;
      owner_lt = below_8 (form house (state t) l.good) owner h.owner_lt;
      incarnation_lt = omega (arith, h.incarnation_le);
      unheard = h.unheard;
    }

-- t₁ has the crash noted.
module _ (t t₁ : List ℕ) (hearer owner i : ℕ) (w : Hears t hearer owner i) (e₁ : t₁ ≡ words (noted (state t) hearer owner i)) where
  pub heard_chain : Chain (state t₁) hearer
  heard_chain = chain_words_lem _ hearer e₁ (chain_noted (state t) hearer hearer owner i w.chain)

-- The code has read the known word; t₁ has the crash noted, and on it the walk has found place k.
pub record Walked (t t₁ : List ℕ) (hearer owner i known k : ℕ) : Type 0 where
  pub hears : Hears t hearer owner i
  pub known_is : known ≡ state t (Known hearer owner i)
  pub noted_is : t₁ ≡ words (noted (state t) hearer owner i)
  pub place_is : k ≡ lowest_condemned (state t₁) hearer

module _ {t t₁ : List ℕ} {hearer owner i known k : ℕ} (w : Walked t t₁ hearer owner i known k) where
  abbrev heard : State
  heard = noted (state t) hearer owner i

  chain : Chain (state t₁) hearer
  chain = heard_chain t t₁ hearer owner i w.hears w.noted_is

  agrees : Agree (state t₁) heard
  agrees = agree_words heard w.noted_is

  live_kept : state t₁ (LiveCount hearer) ≡ state t (LiveCount hearer)
  unfolding noted put same
  live_kept = agrees (LiveCount hearer) (chain.named, omega arith)

  own_kept : state t₁ (Incarnation hearer) ≡ state t (Incarnation hearer)
  unfolding noted put same
  own_kept = agrees (Incarnation hearer) (chain.named, omega arith)

  low : k ≡ lowest_condemned heard hearer
  low = w.place_is ∙ lowest_condemned_same (state t₁) heard agrees hearer chain.named chain.live_le chain.near

  module _ {live : ℕ} (el : live ≡ state t₁ (LiveCount hearer)) where
    -- no place is condemned: the step is done
    pub hear_none : live ≤ k → out (Heard hearer) t₁ ≡ written (hear (state t) hearer owner i)
    unfolding hear
    hear_none l = rw (le-leb (state t (LiveCount hearer)) (lowest_condemned heard hearer) (omega (arith, low, live_kept))) (ap (out (Heard hearer)) w.noted_is)

    -- one is, and the hearer is in incarnation own
    module _ (l : k < live) {own : ℕ} (eo : own ≡ state t₁ (Incarnation hearer)) where
      some : (state t (LiveCount hearer) ≤? lowest_condemned heard hearer) ≡ false
      some = lt-leb (state t (LiveCount hearer)) (lowest_condemned heard hearer) (omega (arith, low, live_kept))

      -- the last: the noted words are taken back, and the step is refused
      pub hear_late : last_incarnation ≤ own → {t₂ : List ℕ} →
          t₂ ≡ words (put (put (state t₁) (End hearer owner i) 0) (Known hearer owner i) known) → out (Refused INCARNATIONS_USED_UP) t₂ ≡ written (hear (state t) hearer owner i)
      unfolding hear noted
      hear_late m e₂ =
          let back = words_same _ _ (agree_put _ _ (Known hearer owner i) known (agree_put _ _ (End hearer owner i) 0 agrees)) in
          let old : words (put (put heard (End hearer owner i) 0) (Known hearer owner i) known) ≡ words (put (put heard (End hearer owner i) (state t (End hearer owner i))) (Known hearer owner i) (state t (Known hearer owner i))) =
          λ d. words (put (put heard (End hearer owner i) (sym w.hears.unheard d)) (Known hearer owner i) (w.known_is d)) in
          let same_words = words_same _ _ (put_back (state t) (End hearer owner i) (Known hearer owner i) (state t (End owner owner i)) (max (state t (Known hearer owner i)) (state t (End owner owner i)))) in
          rw (some, le-leb last_incarnation (state t (Incarnation hearer)) (omega (arith, own_kept))) (ap (out (Refused INCARNATIONS_USED_UP)) (e₂ ∙ back ∙ old ∙ same_words))

      -- or not: its intervals from place k on are undone
      pub hear_starts : own < last_incarnation → Starts (state t₁) hearer k
      hear_starts m =
          let f = lowest (state t₁) hearer chain.live_pos in
          record { chain = chain; kept = omega (arith, f.pos, w.place_is); room = room_live (omega arith) chain.live_le chain.numbers_le; below = omega arith; left = omega arith }

      pub hear_undone : own < last_incarnation → {t₂ : List ℕ} {a : Answer} → out a t₂ ≡ written (undoing (state t₁) hearer owner i k) → out a t₂ ≡ written (hear (state t) hearer owner i)
      unfolding hear
      hear_undone m e₂ =
          let x = number_same (state t₁) heard agrees hearer k chain.named ∙ (numbers_noted (state t) hearer owner i).number hearer k in
          let again = replayed_same (state t₁) heard agrees hearer k chain.named (omega (arith, chain.live_le)) ∙ noted_replayed (state t) hearer owner i hearer k in
          let left = words_same _ _ (agree_rolled (state t₁) heard hearer k (hear_starts m) agrees) in
          rw (some, lt-leb last_incarnation (state t (Incarnation hearer)) (omega (arith, own_kept)))
          (e₂ ∙ (λ d. out (Rolled hearer (x d) (live_kept d - k) (again d) owner i) (left d))
          ∙ ap (λ k. out (Rolled hearer (number_of (state t) hearer k) (state t (LiveCount hearer) - k) (replayed (state t) hearer k) owner i) (words (rolled_back heard hearer k))) low)
