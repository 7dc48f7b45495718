-- Short lists of steps in a house of three, run on the definitions by the prover. That each step finds its state in form is not
-- computed: an opening leaves the form, and every step keeps it (keeping/proofs/Steps.antt).
use Rattle.std.specs.Prelude.{◌≡◌, refl, true, false, List, [], ◌∷◌, ℕ, zero, suc, length}
use Rattle.std.proofs.Common.{ap, ◌∙◌, subst, arith, eq-eqb, ltb-false}
use Rattle.std.proofs.Math.Bool.{and-false}
use Rattle.std.specs.Int.Count.{ones_in, ones}
use Rattle.base.specs.Choice.{◌<?◌}
use Rattle.base.specs.Ranges.{anyb, first}
use Rattle.base.specs.Lists.{tab}
use Rattle.base.specs.Cases.{first_of}
use Rattle.table.specs.Field.{State, same}
use Rattle.table.specs.Change.{put, put_part, clear_places, put_states}
use Rattle.table.specs.Numbering.{number_of, used, last_given, record_of, message_of, posted}
use Rattle.rules.specs.Limits.{house}
use Rattle.rules.specs.Vector.{place_vector, message_vector, flat, known_stable, filter_pair, filtered, condemned_pair, condemned, condemning, mask_to, mask, conflict_pair, conflict, merge_pair, merged}
use Rattle.rules.specs.Form.{state_held, in_form}
use Rattle.rules.specs.Ledger.{ledger_words, ledger_ok, blank_ledger}
use Rattle.rules.specs.Shared.{place_record, logged, logged_to, checkpointed, forced, capped, causing, caused_in, causes_in, causes, offered_again, new_vector, placed, entered, restarted, held_or_dropped, drop_held, start_anew, removed, latest_flagged, replayed}
use Rattle.rules.specs.Steps.{AfterBoth, after_both, refusing, refusing_both, open_house, step_open, message_record, sent, records_full, step_send, message_refusals, own_vector, let_out, gone, ledger_out, may_go, release, step_release, interval_added, interval_begins, no_place, prospect, comes_of, deliver, step_deliver, step_log, crashed, step_crash, noted, lowest_condemned, rolled_back, hear, step_hear, step_gap}
use Rattle.rules.specs.Step.{perform, step_on}
use Rattle.rules.specs.declared.Answer.{Answer}
use Rattle.rules.specs.declared.Answer.TheVariants.{Done}
use Rattle.rules.specs.declared.Command.{Command}
use Rattle.rules.specs.declared.Command.TheVariants.{Open, Release}
use Rattle.laws.specs.Facts.{house_fits}
use Rattle.laws.specs.Ledger.{blank_sound}
use Rattle.keeping.proofs.Opening.{form_open}
use Rattle.keeping.proofs.Steps.{performed, form_kept}

-- the answers to a list of steps, each on the state and the ledger that the last one left
unfoldable pub answers : State → List ℕ → List Command → List Answer
answers σ g [] = []
answers σ g (x ∷ xs) = let o = step_on house σ g x in o.answer ∷ answers o.left o.ledger xs

-- an opening, which looks at the ledger's length
pub opens : (σ : State) (g : List ℕ) (k : ℕ) → length g ≡ ledger_words house → (3 <? k) ≡ false → step_on house σ g (Open 3 k) ≡ after_both Done (open_house 3 k) (blank_ledger house)
unfolding step_on perform step_open refusing_both first_of
opens σ g k long e = rw (eq-eqb (length g) (ledger_words house) long, e)

-- a house just opened is in form, and a step on a state in form leaves one
pub opened_form : (k : ℕ) → (3 <? k) ≡ false → in_form house (open_house 3 k) ≡ true
opened_form k e = form_open house house_fits 3 k (record { size_pos = omega arith; size_le = omega arith; degree_le = ltb-false 3 k e })

pub left_form : (σ : State) (g : List ℕ) (x : Command) {τ : State} {h : List ℕ} {y : Answer} → in_form house σ ≡ true → perform house σ g x ≡ after_both y τ h → in_form house τ ≡ true
left_form σ g x f e = subst (λ o. in_form house o.left ≡ true) (performed house σ g f x ∙ e) (form_kept house house_fits σ g x f)

-- A run: each step gives its answer, changes the state as is said, and leaves the next ledger.
pub data Run : State → List ℕ → List Command → List Answer → Type 0 where
  end : {σ : State} {g : List ℕ} → Run σ g [] []
  next : {σ : State} {g h : List ℕ} {x : Command} {xs : List Command} {y : Answer} {ys : List Answer} (change : State → State) →
      perform house σ g x ≡ after_both y (change σ) h → Run (change σ) h xs ys → Run σ g (x ∷ xs) (y ∷ ys)

pub run_answers : {σ : State} {g : List ℕ} {xs : List Command} {ys : List Answer} → Run σ g xs ys → in_form house σ ≡ true → answers σ g xs ≡ ys
unfolding answers step_on
run_answers end f = refl
run_answers (next {σ} {g} {x = x} {y = y} change e r) f = rw (f, and-false, e) (ap (λ ys. y ∷ ys) (run_answers r (left_form σ g x f e)))

-- A release looks at all words of the ledger. That the one of a house just opened passes is shown here once, and not computed at each
-- release.
pub blank_ok : ledger_ok house (blank_ledger house) ≡ true
blank_ok = blank_sound house

-- So a release goes by its message: what it does beside a ledger in form. (By the message's number, so that the prover waits for it
-- before it compares states.)
unfoldable pub release_of : State → List ℕ → ℕ → AfterBoth
release_of σ g zero = perform house σ g (Release 0)
release_of σ g (suc j) = let r = record_of σ (suc j) in refusing_both (message_refusals σ r state_held) σ g (release house σ g (suc j) r)

pub by_message : (σ : State) (g : List ℕ) (m : ℕ) → ledger_ok house g ≡ true → perform house σ g (Release m) ≡ release_of σ g m
unfolding perform step_release refusing_both first_of release_of
by_message σ g zero ok = refl
by_message σ g (suc j) ok = rw ok

unfoldable pub goes : {σ : State} {g h : List ℕ} {m : ℕ} {xs : List Command} {y : Answer} {ys : List Answer} (change : State → State) →
    ledger_ok house g ≡ true → release_of σ g m ≡ after_both y (change σ) h → Run (change σ) h xs ys → Run σ g (Release m ∷ xs) (y ∷ ys)
goes {σ} {g = g} {m = m} change ok e r = next change (by_message σ g m ok ∙ e) r

-- The rules on the way of these lists: `unfolding steps` opens them all.
unfoldable pub steps : Unit {0}
unfolding ones_in ones anyb first tab first_of same put put_part clear_places put_states number_of used last_given record_of message_of posted place_vector message_vector flat known_stable filter_pair filtered condemned_pair condemned condemning mask_to mask conflict_pair conflict merge_pair merged place_record logged logged_to checkpointed forced capped causing caused_in causes_in causes offered_again new_vector placed entered restarted held_or_dropped drop_held start_anew removed latest_flagged replayed refusing refusing_both open_house message_record sent records_full step_send own_vector let_out gone ledger_out may_go release step_release interval_added interval_begins no_place prospect comes_of deliver step_deliver step_log crashed step_crash noted lowest_condemned rolled_back hear step_hear step_gap perform release_of
steps = tt
