-- An opening as the code makes it, controller by controller.
use Rattle.std.specs.Prelude.{◌≡◌, Bool, true, false, cond, ◌&&◌, ◌≢◌, List, ◌++◌, ℕ, ◌+◌, ◌-◌, ◌≤◌, ◌<◌, get_or, set, take, drop, replicate, ◌==◌}
use Rattle.std.proofs.Math.Path.{refl, ap}
use Rattle.std.proofs.Common.{sym, ◌∙◌, zero-le, zero-add, arith, length-set, get_or-set_same, get_or-set_other}
use Rattle.std.proofs.Math.Bool.{and-false}
use Rattle.std.proofs.Math.ListN.{length}
use Rattle.std.proofs.lemmas.List.{get_or-replicate}
use borrow.Author.Tests.{eqb-true, eqb-false, not-false, eq-eqb, lt-ltb, le-ltb}
use Rattle.base.specs.Choice.{◌<?◌, and_left, and_right, cond_ind, le?}
use Rattle.base.specs.Lists.{tab_of}
use Rattle.base.specs.Cases.{first_of, cleared}
use Rattle.table.specs.Field.{Field, State, OfHead, OfController, Known, End, OfPlace, OfMessage, Size, Served, word, same}
use Rattle.table.specs.Change.{put, put_ind, put_part, part_ind}
use Rattle.table.specs.Layout.{controllers, controller_words, place_words, table_words, Valid, position}
use Rattle.table.specs.Words.{state, words, Agree}
use Rattle.table.proofs.Words.{words_of, words_state, words_same, agree_words, agree_put, agree_part, lent_part, fits_controller, called, then_put, then_part}
use Rattle.rules.specs.Limits.{house}
use Rattle.rules.specs.Vector.{Pair, Vector, pair, no_pair}
use Rattle.rules.specs.Ledger.{ledger_words, blank_ledger}
use Rattle.rules.specs.Steps.{first_controller, first_place, first_vector, open_house, open_refusals, step_open}
use Rattle.rules.specs.Step.{out_both, written_both}
use Rattle.rules.specs.declared.Answer.TheVariants.{Done}
use Rattle.laws.specs.Records.{length_place_record}
use Rattle.laws.specs.Answering.{granted_both}
use Rattle.interval.specs.LentPlaces.{zero_words, zero_at, length_zero}

-- σ with controller c begun
unfoldable pub begins_at : State → ℕ → ℕ → State
begins_at σ c k =
    let counted = put_part σ (OfController c 0) 0 (first_controller k) in
    put_part (put counted (Known c c 0) 1) (OfPlace c 0 0) 0 (first_place (first_vector c))

-- O n k with only the controllers below c begun
unfoldable pub opened_to : ℕ → ℕ → ℕ → State
opened_to n k c = put (put (open_house c k) Served (n - 1)) Size n

-- one pair stored in an empty vector
pub own_stored : (c : ℕ) → c < controllers → set (replicate controllers no_pair) c (pair 0 1) ≡ first_vector c
own_stored c h = tab_of no_pair controllers _ (set none c own) (length-set none c own) stored
  where
    none : Vector
    none = replicate controllers no_pair

    own : Pair
    own = pair 0 1

    stored : (owner : ℕ) → owner < controllers → get_or (set none c own) owner no_pair ≡ cond (owner == c) own no_pair
    stored owner l =
        cond_ind (λ p. get_or (set none c own) owner no_pair ≡ p) (owner == c)
        (λ e. ap (λ i. get_or (set none c own) i no_pair) (eqb-true owner c e) ∙ get_or-set_same none c own no_pair h)
        (λ e. get_or-set_other none c owner own no_pair (eqb-false owner c e) ∙ get_or-replicate controllers owner no_pair no_pair l)

-- the part of the table with c's own words was lent and came back as ys
pub controller_lent : (t ys : List ℕ) (c k from to : ℕ) → length t ≡ table_words → c < controllers → ys ≡ first_controller k → from ≡ position (OfController c 0) →
    to ≡ from + controller_words → take from t ++ (ys ++ drop (to - from) (drop from t)) ≡ words (put_part (state t) (OfController c 0) 0 (first_controller k))
controller_lent t ys c k from to l cl e f q =
    ap (λ from. take from t ++ (ys ++ drop (to - from) (drop from t))) f
    ∙ lent_part (state t) (OfController c 0) 0 to t ys (first_controller k) (words_state t l) e (omega arith) (fits_controller c (first_controller k) cl (omega arith))

-- then c's own known word was stored, and its place 0 was written
pub begun_at : (t t₁ t₂ t₃ : List ℕ) (c k : ℕ) (v : Vector) → t₁ ≡ words (put_part (state t) (OfController c 0) 0 (first_controller k)) → t₂ ≡ words (put (state t₁) (Known c c 0) 1) →
    v ≡ first_vector c → t₃ ≡ words (put_part (state t₂) (OfPlace c 0 0) 0 (first_place v)) → t₃ ≡ words (begins_at (state t) c k)
unfolding begins_at
begun_at t t₁ t₂ t₃ c k v e q f h =
    then_part _ (OfPlace c 0 0) 0 (first_place (first_vector c)) (then_put _ (Known c c 0) 1 e q)
    (h ∙ ap (λ v. words (put_part (state t₂) (OfPlace c 0 0) 0 (first_place v))) f)

-- beginning a controller looks only at words of the table
agree_begins : (σ τ : State) (c k : ℕ) → Agree σ τ → Agree (begins_at σ c k) (begins_at τ c k)
unfolding begins_at
agree_begins σ τ c k e = agree_part _ _ (OfPlace c 0 0) 0 _ (agree_put _ _ (Known c c 0) 1 (agree_part σ τ (OfController c 0) 0 _ e))

-- 0 by any test
cond_zero : (b : Bool) → ◌≡◌ {A = ℕ} 0 (cond b 0 0)
cond_zero true = refl
cond_zero false = refl

-- where no controller is begun and the size is 0, every word is 0
none_begun : (k : ℕ) (f : Field) → 0 ≡ open_house 0 k f
unfolding open_house
none_begun k (OfHead w) = cond_zero (w == word Size) ∙ ap (cond (w == word Size) 0) (cond_zero (w == word Served))
none_begun k (OfController c w) = simp (le-ltb c 0 zero-le)
none_begun k (Known holder owner i) = simp (le-ltb holder 0 zero-le)
none_begun k (End holder owner i) = refl
none_begun k (OfPlace c p w) = simp (le-ltb c 0 zero-le)
none_begun k (OfMessage r w) = refl

-- the table was cleared, and the controller last served and the number of controllers were stored
pub opened_none : (t u w : List ℕ) (n k : ℕ) → t ≡ zero_words table_words → u ≡ words (put (state t) Served (n - 1)) → w ≡ words (put (state u) Size n) → w ≡ words (opened_to n k 0)
unfolding opened_to
opened_none t u w n k e q r =
    then_put _ Size n
    (then_put (open_house 0 k) Served (n - 1)
    (e ∙ words_of (open_house 0 k) (zero_words table_words) (length_zero table_words) (λ f v. zero_at table_words (position f) ∙ none_begun k f)) q) r

-- the words that were put hide those below them: b tells the size, d the controller last served
cond_twice : (b d : Bool) (n m : ℕ) → cond (b && true) n (cond (d && true) (n - 1) (cond b m (cond d (m - 1) 0))) ≡ cond b n (cond d (n - 1) 0)
cond_twice true d n m = refl
cond_twice false true n m = refl
cond_twice false false n m = refl

-- the head does not depend on how many controllers are begun
head_put : (n k c w : ℕ) → opened_to n k c (OfHead w) ≡ open_house n k (OfHead w)
unfolding opened_to open_house put same
head_put n k c w = cond_twice (w == word Size) (w == word Served) n c

-- a controller other than c is begun before c's turn just if it is begun after it
begun_other : (d c : ℕ) → d ≢ c → (d <? c) ≡ (d <? c + 1)
begun_other d c ne =
    le? (d + 1) c (λ l. lt-ltb d c (omega arith) ∙ sym (lt-ltb d (c + 1) (omega arith)))
    (λ l. le-ltb d c (omega arith) ∙ sym (le-ltb d (c + 1) (omega arith)))

-- two tests that agree where a third one passes agree with it
and_where : (x y b : Bool) → (b ≡ true → x ≡ y) → (x && b) ≡ (y && b)
and_where x y true h = ap (λ z. z && true) (h refl)
and_where x y false h = and-false x ∙ sym (and-false y)

-- c's turn leaves the other words as they are
turn_other : (n k c : ℕ) (g : Field) → Valid g → ((w : ℕ) → w < place_words → g ≢ OfPlace c 0 w) → g ≢ Known c c 0 → ((w : ℕ) → w < controller_words → g ≢ OfController c w) →
    opened_to n k c g ≡ opened_to n k (c + 1) g
unfolding opened_to open_house put same
turn_other n k c (OfHead w) v place known own = head_put n k c w ∙ sym (head_put n k (c + 1) w)
turn_other n k c (OfController d w) v place known own =
    ap (λ b. cond b (get_or (first_controller k) w 0) 0) (begun_other d c (λ e. own w v.1 (ap (λ x. OfController x w) e)))
turn_other n k c (Known holder owner i) v place known own =
    ap (λ b. cond b 1 0)
    (and_where (holder <? c) (holder <? c + 1) ((holder == owner) && (i == 0))
    (λ e. let same = eqb-true holder owner (and_left (holder == owner) _ e) in
    let first = eqb-true i 0 (and_right (holder == owner) _ e) in
    begun_other holder c (λ q. known (λ d. Known (q d) ((sym same ∙ q) d) (first d)))))
turn_other n k c (End holder owner i) v place known own = refl
turn_other n k c (OfPlace d p w) v place known own =
    ap (λ b. cond b (get_or (first_place (first_vector d)) w 0) 0)
    (and_where (d <? c) (d <? c + 1) (p == 0) (λ e. begun_other d c (λ q. place w v.2 (λ x. OfPlace (q x) (eqb-true p 0 e x) w))))
turn_other n k c (OfMessage r w) v place known own = refl

-- the opened state has the words that c's turn writes: the controller's words
turn_controller : (n k c w : ℕ) → get_or (first_controller k) w 0 ≡ opened_to n k (c + 1) (OfController c (0 + w))
unfolding opened_to open_house put same
turn_controller n k c w = simp (lt-ltb c (c + 1) (omega arith), zero-add)

-- its own known word
turn_known : (n k c : ℕ) → 1 ≡ opened_to n k (c + 1) (Known c c 0)
unfolding opened_to open_house put same
turn_known n k c = simp (lt-ltb c (c + 1) (omega arith), eq-eqb c c refl)

-- the words of its place 0
turn_place : (n k c w : ℕ) → get_or (first_place (first_vector c)) w 0 ≡ opened_to n k (c + 1) (OfPlace c 0 (0 + w))
unfolding opened_to open_house put same
turn_place n k c w = simp (lt-ltb c (c + 1) (omega arith), zero-add)

-- c's turn takes the state with the controllers below c begun to the next one
begins_next : (n k c : ℕ) → Agree (begins_at (opened_to n k c) c k) (opened_to n k (c + 1))
unfolding begins_at
begins_next n k c =
    part_ind (λ g y. Valid g → y ≡ opened_to n k (c + 1) g) _ (OfPlace c 0 0) 0 place (λ w h v. turn_place n k c w)
    (λ g ne v. put_ind (λ g y. Valid g → NoPlace g → y ≡ opened_to n k (c + 1) g) _ (Known c c 0) 1 (λ v ne. turn_known n k c)
    (λ g nk v ne. part_ind (λ g y. Valid g → NoPlace g → g ≢ Known c c 0 → y ≡ opened_to n k (c + 1) g) (opened_to n k c) (OfController c 0) 0 (first_controller k)
    (λ w h v ne nk. turn_controller n k c w)
    (λ g no v ne nk. turn_other n k c g v (λ w l e. ne w (omega (arith, length_place_record 0 1 0 1 (first_vector c))) (e ∙ ap (OfPlace c 0) (sym (zero-add w)))) nk
    (λ w l e. no w l (e ∙ ap (OfController c) (sym (zero-add w))))) g v ne nk) g v ne)
  where
    place : List ℕ
    place = first_place (first_vector c)

    NoPlace : Field → Type 0
    NoPlace g = (w : ℕ) → w < length place → g ≢ OfPlace c 0 (0 + w)

-- a call has begun the next controller
pub opened_next : (n k c : ℕ) (t u : List ℕ) → t ≡ words (opened_to n k c) → u ≡ words (begins_at (state t) c k) → u ≡ words (opened_to n k (c + 1))
opened_next n k c t u e q =
    called (λ σ. begins_at σ c k) (opened_to n k c) e q (agree_begins _ _ c k (agree_words (opened_to n k c) e)) ∙ words_same _ _ (begins_next n k c)

-- with all n controllers begun it is the opened state
all_begun : (n k : ℕ) → Agree (opened_to n k n) (open_house n k)
unfolding opened_to open_house put same
all_begun n k (OfHead w) v = head_put n k n w
all_begun n k (OfController d w) v = refl
all_begun n k (Known holder owner i) v = refl
all_begun n k (End holder owner i) v = refl
all_begun n k (OfPlace d p w) v = refl
all_begun n k (OfMessage r w) v = refl

-- the loop has come to its end, with all controllers begun
pub opened_all : (n k c : ℕ) (t : List ℕ) → t ≡ words (opened_to n k c) → c ≤ n → n ≤ c → t ≡ words (open_house n k)
opened_all n k c t e l m = e ∙ ap (λ c. words (opened_to n k c)) (omega arith) ∙ words_same _ _ (all_begun n k)

-- O n k, which nothing refuses
module _ (g : List ℕ) (n k : ℕ) (e : 0 ≡ first_of (open_refusals house g n k)) where
  -- the ledger has its length, and so all of its words were cleared
  ledger_cleared : (w : List ℕ) → w ≡ zero_words (length g) → w ≡ blank_ledger house
  unfolding zero_words blank_ledger
  ledger_cleared w we =
      let none = cleared _ refl e in
      let l : length g ≡ ledger_words house = eqb-true _ _ (not-false _ (search none)) in
      we ∙ ap zero_words l

  pub open_done : (t u w : List ℕ) → u ≡ words (open_house n k) → w ≡ zero_words (length g) → out_both Done u w ≡ written_both (step_open house (state t) g n k)
  unfolding step_open
  open_done t u w ue we = granted_both _ (state t) g _ Done u w 0 e refl (λ d. out_both Done (ue d) (ledger_cleared w we d))
