-- Where the round begins is told by two words, the number of controllers and the controller last served. No step writes them but an opening that is
-- done, nor does a set.
use Rattle.std.specs.Prelude.{◌≡◌, Bool, false, not, ◌||◌, List, ℕ, length, ◌==◌}
use Rattle.std.proofs.Math.Path.{refl}
use Rattle.std.proofs.Common.{sym, ap, ◌∙◌, true≢false, arith, eqb-true}
use Rattle.std.proofs.Math.Bool.{true}
use Rattle.base.specs.Choice.{cond_ind}
use Rattle.base.specs.Cases.{first_of}
use Rattle.table.specs.Field.{Field, State, OfHead, OfController, Known, End, OfPlace, OfMessage, Size, Served, region, word}
use Rattle.table.specs.Layout.{table_words, Valid}
use Rattle.table.specs.Words.{state}
use Rattle.table.proofs.Words.{word_at}
use Rattle.table.specs.Numbering.{posted}
use Rattle.table.proofs.Numbering.{posted_size, posted_served}
use Rattle.rules.specs.Limits.{Limits, house}
use Rattle.rules.specs.Form.{in_form}
use Rattle.rules.specs.Steps.{AfterBoth, refusing_both, open_refusals, step_open, sent}
use Rattle.rules.specs.Step.{OutBoth, looks_at_form, perform, step_on, lent, step, set_on, release_set, step_call}
use Rattle.rules.specs.declared.Command.{Command}
use Rattle.rules.specs.declared.Command.TheVariants.{Open, SetDegree, Send, Release, Deliver, Log, Checkpoint, Tell, Crash, Hear, SetGap}
use Rattle.laws.specs.StepWords.{Writable, every_step}
use Rattle.laws.specs.Sets.{outs_region}
use Rattle.calls.specs.Made.{NoDoneOpening}
use Rattle.laws.proofs.Together.{SetOutcome, refused, held, goes, set_outcome}

-- these two words
abbrev pub of_round : Field → Bool
of_round (OfHead k) = (k == word Size) || (k == word Served)
of_round (OfController c k) = false
of_round (Known holder owner i) = false
of_round (End holder owner i) = false
of_round (OfPlace c p k) = false
of_round (OfMessage r k) = false

-- x is what σ has in f, if f is one of them
abbrev pub Round : State → Field → ℕ → Type 0
Round σ f x = of_round f ≡ true → x ≡ σ f

-- the rules of most steps write neither
round_writable : (σ : State) → Writable (Round σ)
round_writable σ =
    record {
      gap = λ x e. absurd (true≢false (sym e));
      controller = λ c k x e. absurd (true≢false (sym e));
      known = λ holder owner i x e. absurd (true≢false (sym e));
      end = λ holder owner i x e. absurd (true≢false (sym e));
      place = λ c p k x e. absurd (true≢false (sym e));
      vector = λ r k x l e. absurd (true≢false (sym e));
      released = λ r e. absurd (true≢false (sym e));
      delivered = λ r e. absurd (true≢false (sym e));
      dropped = λ r e. absurd (true≢false (sym e));
      published = λ r e. absurd (true≢false (sym e));
    }

-- nor does S
round_posted : (σ : State) (w : List ℕ) (f : Field) → Round σ f (posted σ w f)
round_posted σ w (OfHead k) e = go (k == word Size) refl e
  where
    at : {i : ℕ} → k ≡ i → posted σ w (OfHead i) ≡ σ (OfHead i) → posted σ w (OfHead k) ≡ σ (OfHead k)
    at z h = rw z h

    go : (b : Bool) → (k == word Size) ≡ b → (b || (k == word Served)) ≡ true → posted σ w (OfHead k) ≡ σ (OfHead k)
    go true q e = at (eqb-true k (word Size) q) (posted_size σ w)
    go false q e = at (eqb-true k (word Served) e) (posted_served σ w)
round_posted σ w (OfController c k) e = absurd (true≢false (sym e))
round_posted σ w (Known holder owner i) e = absurd (true≢false (sym e))
round_posted σ w (End holder owner i) e = absurd (true≢false (sym e))
round_posted σ w (OfPlace c p k) e = absurd (true≢false (sym e))
round_posted σ w (OfMessage r k) e = absurd (true≢false (sym e))

-- a step that is not an opening that is done leaves them
pub round_step : (L : Limits) (σ : State) (g : List ℕ) (x : Command) → NoDoneOpening x (step_on L σ g x).answer → (f : Field) → Round σ f ((step_on L σ g x).left f)
unfolding step_on perform step_open refusing_both sent
round_step L σ g x = go x
  where
    others : (x : Command) → looks_at_form x ≡ true → (f : Field) → Round σ f ((step_on L σ g x).left f)
    others x e =
        every_step (Round σ) (round_writable σ) σ (λ f _. refl) L g x (λ n k z. absurd (true≢false (sym e ∙ ap looks_at_form z)))
        (λ sender receiver payload _. round_posted σ _)

    go : (x : Command) → NoDoneOpening x (step_on L σ g x).answer → (f : Field) → Round σ f ((step_on L σ g x).left f)
    go (Open n k) undone =
        cond_ind (λ (o : AfterBoth). NoDoneOpening (Open n k) o.answer → (f : Field) → Round σ f (o.left f)) (first_of (open_refusals L g n k) == 0)
        (λ _ done. absurd (done n k refl refl)) (λ _ _ f _. refl) undone
    go (SetDegree c k) _ = others (SetDegree c k) refl
    go (Send sender receiver payload) _ = others (Send sender receiver payload) refl
    go (Release m) _ = others (Release m) refl
    go (Deliver m) _ = others (Deliver m) refl
    go (Log c q) _ = others (Log c q) refl
    go (Checkpoint c) _ = others (Checkpoint c) refl
    go (Tell owner holder) _ = others (Tell owner holder) refl
    go (Crash c) _ = others (Crash c) refl
    go (Hear hearer owner i) _ = others (Hear hearer owner i) refl
    go (SetGap q) _ = others (SetGap q) refl

-- a set writes records of messages alone
round_set : (L : Limits) (σ : State) (g l : List ℕ) (f : Field) → region f ≡ region Size → (set_on L σ g l).left f ≡ σ f
unfolding set_on
round_set L σ g l f here =
    cond_ind (λ (o : AfterBoth). o.left f ≡ σ f) (not (in_form L σ)) (λ _. refl) (λ _. go (set_outcome L σ g l))
  where
    go : {o : AfterBoth} → SetOutcome L σ g l o → o.left f ≡ σ f
    go (refused number) = refl
    go (held w) = refl
    go (goes w) = outs_region σ l (length l) f (λ e. absurd (omega (arith, e, here)))

-- ON LENT TABLES
-- both words are as they were
pub record SameRound (t u : List ℕ) : Type 0 where
  pub size : state u Size ≡ state t Size
  pub served : state u Served ≡ state t Served

module _ (t g : List ℕ) where
  pub step_leaves : (x : Command) → NoDoneOpening x (step t g x).answer → SameRound t (step t g x).table
  unfolding step lent
  step_leaves x undone = record { size = word_same Size (omega arith) refl undone; served = word_same Served (omega arith) refl undone }
    where
      word_same : (f : Field) → Valid f → of_round f ≡ true → NoDoneOpening x (step t g x).answer → state (step t g x).table f ≡ state t f
      word_same f v e =
          cond_ind (λ (o : OutBoth). NoDoneOpening x o.answer → state o.table f ≡ state t f) (length t == table_words)
          (λ _ undone. word_at _ f v ∙ round_step house (state t) g x undone f e) (λ _ _. refl)

  pub set_leaves : (l : List ℕ) → SameRound t (step_call t g (release_set l)).table
  unfolding step_call lent
  set_leaves l = record { size = word_same Size (omega arith) refl; served = word_same Served (omega arith) refl }
    where
      word_same : (f : Field) → Valid f → region f ≡ region Size → state (step_call t g (release_set l)).table f ≡ state t f
      word_same f v here =
          cond_ind (λ (o : OutBoth). state o.table f ≡ state t f) (length t == table_words) (λ _. word_at _ f v ∙ round_set house (state t) g l f here) (λ _. refl)
