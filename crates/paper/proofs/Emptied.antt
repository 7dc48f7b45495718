-- The house emptied: where all have heard every crash, C by all and T by all to all leave no released message that can wait, so that as many calls of the
-- dispatcher as there are message records leave only those whose receiver has no place left.
use Rattle.std.specs.Prelude.{◌≡◌, true, List, ◌++◌, ◌≢◌, ℕ, zero, suc, ◌<◌}
use Rattle.std.proofs.Common.{sym, ◌∙◌, subst, ap₂, arith}
use Rattle.table.proofs.Numbering.{present_pos}
use Rattle.rules.specs.Refusal.{PLACES_USED_UP}
use Rattle.rules.specs.Step.{Call, asks}
use Rattle.rules.specs.declared.Answer.TheVariants.{Refused}
use Rattle.rules.specs.declared.Command.TheVariants.{Deliver, Tell}
use Rattle.history.specs.Demand.{FromOpening, Run, up_to, end, step_in}
use Rattle.history.specs.Progress.{Deliverable, HasHeard}
use Rattle.history.specs.Asked.{Spreads, Cleared, was_asked}
use Rattle.history.specs.Fair.{IsReleased}
use Rattle.history.specs.Emptied.{EmptiesHouse, drained, all_tell_up_to, AllTellAll, checkpoints_and_tellings, all_tell, all_checkpoint}
use Rattle.fairness.proofs.Drained.{drains_all}
use Rattle.model.proofs.Consequences.{sending_begun}
use Rattle.model.proofs.Tests.{eq?}
use Rattle.image.specs.Reads.{present_sent}
use Rattle.progress.proofs.Answers.{released_deliverable}
use Rattle.demand.specs.Demanded.{table_inv}
use Rattle.paper.specs.Ready.{Ready, ready}
use Rattle.paper.specs.Whenever.{unhindered, receiver_in_lem}
use Rattle.paper.proofs.Longer.{Each, each_of, from, same_end, still_heard, asked_among, each_append, At, each_at, at_first, at_second, then_tells}
use Rattle.paper.proofs.Eventually.{checkpoints_spread, tells_spread, checkpoint_at, tell_at}

-- At the end of any list, whenever and among whatever other steps the controllers were asked: where the receiver of each released message has heard every
-- crash, and the others are cleared of that message for it.
module _ (t g : List ℕ) (n k : ℕ) (l : List Call) (O : FromOpening t g n k l) where
  abbrev r : Run
  r = up_to t g n k l

  s : Ready n r
  s = ready t g n k l O

  -- a released message can be delivered
  can : (m : ℕ) → IsReleased r m → Deliverable t g n k l m
  can m is =
      let (there, free) = released_deliverable r.table r.ledger s.sound m is.there is.released in
      record { is_there = there; is_released_lem = free }

  pub cleared_empties :
      ((m : ℕ) → IsReleased r m → let c = r.history.receiver m in HasHeard t g n k l c × ((a : ℕ) → a < n → a ≢ c → Cleared t g n k l m c a)) →
      (m : ℕ) → IsReleased (drained r) m → (step_in (drained r) (Deliver m)).answer ≡ Refused PLACES_USED_UP
  cleared_empties all =
      drains_all r s.sound.table
      (λ m is. let (heard, cleared) = all m is in unhindered t g n k l O m (can m is) cleared heard)

-- C by all and T by all to all clear every controller of every message, for its receiver.
pub empties_house : EmptiesHouse
empties_house t g n k l more O heard informs =
    cleared_empties t g n k longer from_here (λ m is.
    let v = table_inv (ready t g n k longer from_here).holds in
    let h' = end t g n k longer in
    let begun : h'.begun (h'.sending m) ≡ true = sending_begun v m (present_pos _ m is.there) (present_sent _ m is.there) in
    let same = same_end t g n k l O more spreading in
    let begun_then = sym (ap₂ (λ f s. f (s m)) same.begun_is same.sending_is) ∙ begun in
    let b = h'.receiver m in
    let near = receiver_in_lem t g n k longer from_here m (can t g n k longer from_here m is) in (
      still_heard t g n k l O more spreading b (heard b near),
      λ c below ne. was_asked (asked_among t g n k l O more spreading m begun_then c below b near ne (informs.each c b below near ne)),
    ))
  where
    longer : List Call
    longer = l ++ more

    spreading : Each Spreads more
    spreading = each_of Spreads more informs.alone

    from_here : FromOpening t g n k (l ++ more)
    from_here = from t g n k l O more spreading

-- ONE SUCH LIST
-- its tellings,
tellings_spread : (n m : ℕ) → Each Spreads (all_tell_up_to n m)
unfolding Each all_tell_up_to
tellings_spread n zero = tt
tellings_spread n (suc b) = each_append Spreads (all_tell n b) (all_tell_up_to n b) (tells_spread n b) (tellings_spread n b)

-- and where each of them stands
telling_at : (n m c b : ℕ) → c < n → b < m → c ≢ b → At (asks (Tell c b)) (all_tell_up_to n m)
unfolding all_tell_up_to
telling_at n zero c b below near ne = absurd (omega arith)
telling_at n (suc d) c b below near ne =
    eq? b d (λ e. at_first (all_tell_up_to n d) (subst (λ a. At (asks (Tell c b)) (all_tell n a)) e (tell_at n b c below ne)))
    (λ other. at_second (all_tell n d) (telling_at n d c b below (omega arith) ne))

-- C by each, and then T by each to each other
pub all_tell_all : (n : ℕ) → AllTellAll n (checkpoints_and_tellings n)
all_tell_all n =
    record {
      alone = λ before x after.
          each_at Spreads (checkpoints_and_tellings n) before x after (each_append Spreads (all_checkpoint n) (all_tell_up_to n n) (checkpoints_spread n) (tellings_spread n n));
      each = λ c b below near ne. then_tells (checkpoint_at n c below) (telling_at n n c b below near ne);
    }

-- it empties the house
pub one_list_empties : (t g : List ℕ) (n k : ℕ) (l : List Call) → FromOpening t g n k l → ((b : ℕ) → b < n → HasHeard t g n k l b) →
    let r = drained (up_to t g n k (l ++ checkpoints_and_tellings n)) in
    (m : ℕ) → IsReleased r m → (step_in r (Deliver m)).answer ≡ Refused PLACES_USED_UP
one_list_empties t g n k l O heard = empties_house t g n k l (checkpoints_and_tellings n) O heard (all_tell_all n)
