-- Each return is an end of a run: lengths that don't fit, an unknown letter, all steps done (wrong_lengths,
-- unknown_letter_lem, all_ran). The steps that are cut from the words are all of them (all_words).
use Rattle.run.proofs.Running.{fitted, all_words, wrong_lengths, unknown_letter_lem, all_ran}
use Rattle.run.specs.Run.{answer_words}
use Rattle.std.proofs.Common.{ℕ, ◌*◌, sym, ap, ◌∙◌}
use Rattle.run.proofs.run.Goals as goal

pub returns-then-not-lengths_fit : goal.returns-then-not-lengths_fit
returns-then-not-lengths_fit c = wrong_lengths _ _ _ _ (sym c.lengths_fit.ensures ∙ c.if-not-lengths_fit.true)

pub returns-then-not-letters_known : goal.returns-then-not-letters_known
returns-then-not-letters_known c =
    let fits = sym c.lengths_fit.ensures ∙ c.if-not-lengths_fit.false in
    let cut = c.as_chunks.ensures in
    unknown_letter_lem _ _ _ _ fits (sym (rw (cut.front_len, all_words _ _ fits cut.front) at c.letters_known.ensures) ∙ c.if-not-letters_known.true)

pub run_steps-requires : goal.run_steps-requires
run_steps-requires c =
    let fits = sym c.lengths_fit.ensures ∙ c.if-not-lengths_fit.false in
    (ap (λ (n : ℕ). n * answer_words) c.as_chunks.ensures.front_len ∙ (fitted _ _ fits).1, sym c.letters_known.ensures ∙ c.if-not-letters_known.false)

pub returns : goal.returns
returns c =
    let fits = sym c.lengths_fit.ensures ∙ c.if-not-lengths_fit.false in
    let cut = c.as_chunks.ensures in
    let all = all_words _ _ fits cut.front in
    all_ran _ _ _ _ fits (sym (rw (cut.front_len, all) at c.letters_known.ensures) ∙ c.if-not-letters_known.false) (rw (cut.front_len, all) at c.run_steps.ensures)
