-- After each turn one step more is done (ran_more), and it is known whether the table is in form.
use Rattle.run.specs.Call.{returned}
use Rattle.run.specs.Run.{answer_words, ran_all, ran_to}
use Rattle.run.specs.Running.{form_of}
use Rattle.std.proofs.Common.{◌≡◌, ◌*◌, length, take}
use Rattle.std.specs.List.{concat}
use Rattle.run.proofs.run_steps.Given as goal

abbrev pub invariant-loop-i : goal.invariant-loop-i
invariant-loop-i l = (returned ran_all l.t l.g (take (l.i * answer_words) l.answers) ≡ ran_to l.initial.t l.initial.g (concat l.steps) l.i) × (l.formed ≡ form_of l.t) × (length l.answers ≡ length l.initial.answers)
