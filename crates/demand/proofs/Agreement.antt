-- The history and the table tell the same of each controller, after every step of a list: its degree, its incarnation, which numbers are
-- live, and which of them are stable and flagged; and of Q.
use Rattle.std.specs.Prelude.{◌≡◌, true, List, ◌++◌, ℕ, ◌<◌}
use Rattle.std.proofs.Common.{sym, ◌∙◌, ap, arith, eqb-true, eq-eqb, ◌==◌}
use Rattle.table.specs.Field.{Flag}
use Rattle.table.specs.Words.{state}
use Rattle.table.specs.Numbering.{place_of}
use Rattle.rules.specs.Limits.{house}
use Rattle.rules.specs.Step.{step, Call}
use Rattle.rules.specs.declared.Answer.TheVariants.{Done}
use Rattle.rules.specs.declared.Command.TheVariants.{Open}
use Rattle.laws.specs.Facts.{form, number_is}
use Rattle.history.specs.History.{Interval, member}
use Rattle.history.specs.Demand.{FromOpening, up_to}
use Rattle.model.proofs.Chain.{OnChain, member_chain, chain_member}
use Rattle.model.proofs.Invariant.{newest_is}
use Rattle.model.proofs.Runs.{part}
use Rattle.image.specs.Reads.{gap_is, degree_is, incarnation_is, live_is, stable_is, flag_is}
use Rattle.image.proofs.Tables.{model_of, opening_done}
use Rattle.demand.specs.Demanded.{table_inv, follows}
use Rattle.demand.specs.InForm.{sound_after}
use Rattle.demand.specs.Agreement.{first_kept, FlagAgrees, Agrees}

-- they agree after every first part of a list
pub agrees : (t g : List ℕ) (n k : ℕ) (l : List Call) → FromOpening t g n k l → (before rest : List Call) → l ≡ before ++ rest →
    (c : ℕ) → c < n → Agrees (up_to t g n k before) c
agrees t g n k l O before rest e c below =
    let p = part (follows n) t g k l O before rest e in
    let v = table_inv p in
    let fits = (opening_done t g n k O.done).size_le in
    let h = (up_to t g n k before).history in
    let σ = state (up_to t g n k before).table in
    let ok = v.controller_ok_lem c below in
    let controller = (model_of (up_to t g n k before).table).controller c in
    let d = degree_is σ c (omega arith) in
    let i = incarnation_is σ c (omega arith) in
    let n = live_is σ c (omega arith) in
    let s = stable_is σ c (omega arith) in
    let on : (y : Interval) → member y (h.chain c) ≡ true → OnChain c controller.begun_in controller.live y =
    λ y z. member_chain c controller.begun_in controller.live y (rw ok.shape.chain_is at z) in
    record {
      degree = ok.shape.degree_is ∙ d;
      incarnation = ok.shape.incarnation_is ∙ i;
      live = λ y z. let o = on y z in (ap (λ u. u.owner) o.is, o.pos, omega (arith, o.top));
      all_live = λ x p q. (controller.begun_in x, rw ok.shape.chain_is (chain_member c controller.begun_in controller.live x p (omega arith)));
      newest_live = ap (λ y. y.number) (newest_is ok.shape) ∙ n;
      stable = λ y z. let o = on y z in (
        λ u. omega (arith, ok.body.stable_only y.number o.pos o.top (rw o.is at u)),
        λ u. rw o.is (ok.body.stable_upto y.number o.pos (omega arith)),
      );
      flagged = λ y z _.
          let o = on y z in
          let same : h.flagged y ≡ (σ (Flag c (place_of σ c y.number)) == 1) =
          ap h.flagged o.is ∙ v.flags c below y.number o.pos o.top
          ∙ flag_is σ c (omega arith) y.number o.pos (omega (arith, o.top)) in
          (λ u. eqb-true _ 1 (sym same ∙ u), λ u. same ∙ eq-eqb _ 1 u);
      gap = v.gap_is ∙ gap_is σ;
    }

-- Nothing is discarded yet, so that flags agree for every live interval.
none_discarded_yet : (t g : List ℕ) (n k : ℕ) → (step t g (Open n k)).answer ≡ Done → (l : List Call) (c : ℕ) → first_kept (state (up_to t g n k l).table) c ≡ 1
none_discarded_yet t g n k done l c = number_is (form house _ (sound_after t g n k done l).table.good) c 1

pub all_flags : (t g : List ℕ) (n k : ℕ) (l : List Call) → FromOpening t g n k l → (before rest : List Call) → l ≡ before ++ rest → (c : ℕ) → c < n →
    let r = up_to t g n k before in (y : Interval) → member y (r.history.chain c) ≡ true → FlagAgrees r c y
all_flags t g n k l O before rest e c below y z =
    let w = agrees t g n k l O before rest e c below in
    w.flagged y z (omega (arith, none_discarded_yet t g n k O.done before c, (w.live y z).1))
