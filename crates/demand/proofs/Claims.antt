-- What a tester looks for by name, each claim under the sentence that it answers.
use Rattle.std.specs.Prelude.{◌≡◌, true, false, Some, List, [], ◌++◌, ◌∷◌, ◌⊎◌, ◌≢◌, ℕ, ◌≤◌, ◌<◌, length, take, drop}
use Rattle.std.proofs.Math.Path.{refl, subst}
use Rattle.std.proofs.Common.{sym, ap, ◌∙◌, arith, eqb-true, eq-eqb, ◌==◌}
use Rattle.std.proofs.Math.Bool.{true≢false}
use Rattle.std.specs.Int.Count.{ones}
use Rattle.base.specs.Choice.{cond_ind}
use Rattle.base.specs.Ranges.{count}
use Rattle.table.specs.Field.{MessageState, Served}
use Rattle.table.specs.Layout.{controllers, messages, table_words}
use Rattle.table.specs.Words.{state, words}
use Rattle.table.proofs.Words.{words_state, word_at}
use Rattle.table.specs.Numbering.{record_of}
use Rattle.rules.specs.Limits.{house}
use Rattle.rules.specs.Refusal.{LENGTH, FORM, LEDGER}
use Rattle.rules.specs.Form.{state_lost, for_desk, in_form}
use Rattle.rules.specs.Ledger.{ledger_words, count_of, entry_of, cited_message, cited_payload, appended, blank_ledger}
use Rattle.rules.specs.Steps.{open_house}
use Rattle.rules.specs.Step.{OutBoth, step_on, lent, step, Call, asks, release_set, dispatch, step_call}
use Rattle.rules.specs.declared.Answer.{Answer}
use Rattle.rules.specs.declared.Answer.TheVariants.{Done, Released, Held, Refused}
use Rattle.rules.specs.declared.Command.{Command}
use Rattle.rules.specs.declared.Command.TheVariants.{Open, Checkpoint, Release, SetGap}
use Rattle.lines.specs.Lines.{step_of, parse}
use Rattle.lines.proofs.Letters.{no_letter, no_line}
use Rattle.lines.specs.Program.{house_writes}
use Rattle.history.specs.History.{interval, member, opening}
use Rattle.history.specs.Citations.{no_citations, ledger_of}
use Rattle.history.specs.Demand.{Run, call_in, step_in, next, runs, just_opened, Accepted, answers_heard, answers_rolled, RestsOnLost, named, LetsGo, alone, together, FromOpening, up_to, end, Cited, Demand3}
use Rattle.history.specs.Citable.{Citable, AllCitable}
use Rattle.history.specs.Ceiling.{largest_gap, NeverOff, Ceiling}
use Rattle.history.specs.Blame.{OrphanBy, Blame, DropsNaming}
use Rattle.history.specs.Uses.{orphan_is_not_live}
use Rattle.history.specs.Examples.{ListingLine}
use Rattle.image.proofs.Tables.{opening_done}
use Rattle.laws.specs.Beside.{looks_at_ledger}
use Rattle.laws.proofs.Together.{union_counts}
use Rattle.keeping.proofs.Unrefused.{sound_let}
use Rattle.keeping.proofs.Sets.{sound_let_set}
use Rattle.calls.specs.Sets.{set_goes, not_gone_keeps}
use Rattle.calls.specs.Made.{call_ind}
use Rattle.demand.specs.Demanded.{demand_3}
use Rattle.demand.proofs.Beyond.{ledger_cites}
use Rattle.demand.proofs.Citable.{all_citable}
use Rattle.demand.proofs.Ceiled.{ceiling}
use Rattle.demand.specs.Blamed.{blame, sender_undone}
use Rattle.demand.specs.InForm.{sound_after}
use Rattle.keeping.proofs.StepSame.{same_written, step_words_lem}
use Rattle.testers.specs.Refused.{keeps_refused}
use Rattle.testers.specs.NoneLost.{none_lost}
use Rattle.testers.specs.Checkpoint.{checkpoint_twice}
use Rattle.testers.specs.Counted.{counted_step}
use Rattle.testers.specs.Ledgers.{count_ledger, message_cited, payload_cited}
use Rattle.testers.specs.Desk.{publishes, Writes, ledger_stays, whatever_ledger}
use Rattle.testers.specs.Sample.{sample, asked, answered, calls, answers_from}
use Rattle.testers.proofs.Sample.{sample_from_opening, sample_answers}
use Rattle.testers.proofs.Written.{left_column, right_column, listing_written}
use Rattle.testers.proofs.Judged.{list, publications, sample_at, sample_answer, published_is, live_before, gone_after, live_first, still_live, sending_rests, not_yet_stable, lost_later, undone_rests, heard_later, degree_then, sent_to_desk, sent_from_lem}
use Rattle.testers.proofs.Gapped.{crashing, rolling, GapRun, crashes, rolls, gap_from_opening, gap_never_off, gap_answer, gap_largest, gap_newest}
use Rattle.calls.specs.Dispatch.{not_served_keeps}
use Rattle.table.specs.Change.{put, put_other}
use Rattle.keeping.proofs.Dispatch.{sound_let_dispatch}
use Rattle.history.specs.Fair.{DeliveredOrDropped}

-- 1. "A step that can't be done answers one refusal number from document 01 and changes no word of the table", nor of the ledger.
pub refused_keeps_every_word : (t g : List ℕ) (x : Command) (number : ℕ) → (step t g x).answer ≡ Refused number → ((step t g x).table ≡ t) × ((step t g x).ledger ≡ g)
unfolding step lent
refused_keeps_every_word t g x number =
    let k = keeps_refused (state t) g x in
    cond_ind (λ (o : OutBoth). o.answer ≡ Refused number → (o.table ≡ t) × (o.ledger ≡ g)) (length t == table_words)
    (λ l q. (ap words (k.kept number q) ∙ sym (words_state t (eqb-true (length t) table_words l)), k.ledger_kept number q))
    (λ l q. (refl, refl))

-- a call of a list too
pub refused_call_keeps_every_word : (t g : List ℕ) (x : Call) (number : ℕ) → (step_call t g x).answer ≡ Refused number →
    ((step_call t g x).table ≡ t) × ((step_call t g x).ledger ≡ g)
unfolding step_call
refused_call_keeps_every_word t g (asks x) number e = refused_keeps_every_word t g x number e
refused_call_keeps_every_word t g dispatch number e = not_served_keeps t g (λ m s. elim (subst (DeliveredOrDropped m) e s) [ ])
refused_call_keeps_every_word t g (release_set l) number e = not_gone_keeps t g l (λ mask z. absurd (let q : ◌≡◌ {A = ℕ} 0 1 = cc in omega arith))

-- 2. C: "Repeating it changes nothing." The second time it answers what it did the first time, and leaves every word.
pub checkpoint_again_changes_nothing : (t g : List ℕ) (c : ℕ) → let o = step t g (Checkpoint c) in step o.table o.ledger (Checkpoint c) ≡ o
unfolding step lent
checkpoint_again_changes_nothing t g c =
    cond_ind (λ (o : OutBoth). step o.table o.ledger (Checkpoint c) ≡ o) (length t == table_words)
    (λ l. step_words_lem _ _ (Checkpoint c) ∙ same_written (checkpoint_twice (state t) g c))
    (λ l. rw l)

-- 3. "For every list of these steps .. in a house just opened": from every table of 15,152 words and every ledger of 257 there is such
-- a list, with a release that is let out, a delivery, a reading that is published, a crash, a hearing that undoes nothing and one that
-- undoes, and a delivery of what the crash offered again (Sample.antt).
module _ (t g : List ℕ) (long : length t ≡ table_words) (wide : length g ≡ ledger_words house) where
  pub demand_3_not_empty : FromOpening t g 3 1 list × (answers_from (just_opened t g 3 1).table (just_opened t g 3 1).ledger list ≡ answered sample)
  demand_3_not_empty = (sample_from_opening t g long wide, sample_answers t g long wide)

  -- what demand 3 says of it
  said : Demand3 t g 3 1 list
  said = demand_3 t g 3 1 list (sample_from_opening t g long wide)

  -- "Every accepted hearing in the list undid exactly those ..": the interval that controller 2 undid rests on one lost in a crash that
  -- it had heard by then; the one that controller 0 kept rests on none.
  pub undone_rests_on_lost : RestsOnLost (end t g 3 1 list) (sample_at t g 11).history 2 (interval 2 0 2)
  unfolding runs
  undone_rests_on_lost =
      (said.hearings (take 10 list) (drop 11 list) 2 1 0 refl (subst Accepted (sym (sample_answer t g long wide 10 refl)) (answers_rolled 2 1 1 0 1 0))
      (interval 2 0 2) (live_before t g long wide)).0 (gone_after t g long wide)

  pub kept_rests_on_none : RestsOnLost (end t g 3 1 list) (sample_at t g 10).history 0 (interval 0 0 1) → ⊥
  unfolding runs
  kept_rests_on_none r =
      true≢false (sym (still_live t g long wide) ∙ (said.hearings (take 9 list) (drop 10 list) 0 1 0 refl
      (subst Accepted (sym (sample_answer t g long wide 9 refl)) (answers_heard 0)) (interval 0 0 1) (live_first t g long wide)).1 r)

  -- "No live interval rests on one lost in a crash its controller has heard": that one rests on (1;0,2), so it is live no more at the end.
  pub undone_is_not_live : member (interval 2 0 2) ((end t g 3 1 list).chain 2) ≡ false
  undone_is_not_live =
      orphan_is_not_live t g 3 1 list said 2 (omega arith) (interval 2 0 2)
      (record { on = interval 1 0 2; crash = 0; rests = undone_rests t g long wide; lost = lost_later t g long wide; heard = heard_later t g long wide })

  -- W6: "For a rollback it is the crash just heard": that interval is an orphan by the crash which the answer names, that of controller 1's
  -- incarnation 0.
  pub undone_by_the_crash_named : OrphanBy (sample_at t g 11).history 2 (interval 2 0 2) 1 0
  unfolding runs
  undone_by_the_crash_named =
      let (_, _, rolled) = (blame t g 3 1 list (sample_from_opening t g long wide)).rolled (take 10 list) (drop 11 list) 2 1 0 2 1 1 0 1 0 refl (sample_answer t g long wide 10 refl) in
      rolled.each_orphan (interval 2 0 2) (live_before t g long wide) (gone_after t g long wide)

  -- a release of the list that answered so let its message out
  out_at : (j m echoed mask : ℕ) → (step_in (up_to t g 3 1 (take j list)) (Release m)).answer ≡ Released echoed mask →
      LetsGo (asks (Release m)) (call_in (up_to t g 3 1 (take j list)) (asks (Release m))).answer m mask
  unfolding step_call
  out_at j m echoed mask e = subst (λ a. LetsGo (asks (Release m)) a m mask) (sym e) (alone m echoed mask)

  -- "let out with at most K controllers named": message 2 under the degree 1.
  pub one_named_under_1 : ones 2 ≤ 1
  unfolding runs
  one_named_under_1 =
      subst (λ k. ones 2 ≤ k) (degree_then t g long wide) (said.degrees (take 4 list) (drop 5 list) _ 2 2 refl (out_at 4 2 2 2 (sample_answer t g long wide 4 refl)))

  -- "these own every interval .. that is lost anywhere in the list, before it or after": message 2 was let out with the owner named
  -- of an interval that is lost later.
  pub owner_of_lost_is_named : named 2 (interval 1 0 2).owner ≡ true
  unfolding runs
  owner_of_lost_is_named =
      said.releases (take 4 list) (drop 5 list) _ 2 2 refl (out_at 4 2 2 2 (sample_answer t g long wide 4 refl)) (interval 1 0 2) 0 (sending_rests t g long wide)
      (not_yet_stable t g long wide) (lost_later t g long wide)

  -- W2: "the sending interval of a published message is never lost or undone": message 3 was for the desk, and let out before the crash;
  -- its sending interval is live at the end.
  pub published_is_live : let y = interval 0 0 1 in (member y ((end t g 3 1 list).chain 0) ≡ true) × ((crash : ℕ) → (end t g 3 1 list).lost y crash ≡ false)
  unfolding runs
  published_is_live =
      let p = said.published (take 7 list) (drop 8 list) _ 3 0 refl (out_at 7 3 3 0 (sample_answer t g long wide 7 refl)) (sent_to_desk t g long wide) in
      subst (λ y. (member y ((end t g 3 1 list).chain y.owner) ≡ true) × ((crash : ℕ) → (end t g 3 1 list).lost y crash ≡ false)) (sent_from_lem t g long wide) (p.1, p.2)

  -- and the ledger has just that message, with its payload
  pub cited_not_empty : (up_to t g 3 1 list).ledger ≡ ledger_of publications
  cited_not_empty = ledger_cites t g 3 1 list (sample_from_opening t g long wide) ∙ ap ledger_of (published_is t g long wide)

  -- so the ledger has one entry, which reads as message 3 with the payload 5, and that may be cited (10)
  pub citable_not_empty : let u = (up_to t g 3 1 list).ledger in (count_of u ≡ 1) × (cited_message u 0 ≡ 3) × (cited_payload u 0 ≡ 5) × Citable t g 3 1 list 3 5
  citable_not_empty =
      let count = ap count_of cited_not_empty ∙ count_ledger publications in
      let message = ap (λ u. cited_message u 0) cited_not_empty ∙ message_cited publications 0 (omega arith) (omega arith) in
      let payload = ap (λ u. cited_payload u 0) cited_not_empty ∙ payload_cited publications 0 (omega arith) (omega arith) in
      (count, message, payload, rw (message, payload) at (all_citable t g 3 1 list (sample_from_opening t g long wide) 0 (omega arith)))

-- 4. "let out with at most K controllers named": the ones of the mask, which are compared with K, are the controllers named.
pub ones_are_the_named : (t g : List ℕ) (m echoed mask : ℕ) → (step t g (Release m)).answer ≡ Released echoed mask → ones mask ≡ count controllers (named mask)
ones_are_the_named t g m = (counted_step t g m).released

pub held_ones_are_the_named : (t g : List ℕ) (m echoed mask : ℕ) → (step t g (Release m)).answer ≡ Held echoed mask → ones mask ≡ count controllers (named mask)
held_ones_are_the_named t g m = (counted_step t g m).held

-- in a set too
pub shown_ones_are_the_named : (t g : List ℕ) {x : Call} {a : Answer} {m mask : ℕ} → LetsGo x a m mask → (step_call t g x).answer ≡ a → ones mask ≡ count controllers (named mask)
unfolding step_call
shown_ones_are_the_named t g (alone m echoed mask) e = ones_are_the_named t g m echoed mask e
shown_ones_are_the_named t g (together l i mask h) e = subst (λ k. ones k ≡ count controllers (named k)) (set_goes t g l mask e).1 (union_counts (state t) l)

pub at_most_K_named : (t g : List ℕ) (n k : ℕ) (l : List Call) → FromOpening t g n k l → (before after : List Call) (x : Call) (m mask : ℕ) → l ≡ before ++ x ∷ after →
    LetsGo x (call_in (up_to t g n k before) x).answer m mask →
    let h = (up_to t g n k before).history in
    count controllers (named mask) ≤ h.degree (h.sending m).owner
at_most_K_named t g n k l O before after x m mask e goes =
    let r = up_to t g n k before in
    let h = r.history in
    subst (λ k. k ≤ h.degree (h.sending m).owner) (shown_ones_are_the_named r.table r.ledger goes refl) ((demand_3 t g n k l O).degrees before after x m mask e goes)

-- 5. "Listing A, input left, output right": all that `house` writes for the left column is the right one, byte by byte.
pub listing_A_written : house_writes left_column ≡ right_column
listing_A_written = listing_written

-- 6. W1: "State 4 isn't given any more": on every table, a record has it after a step only if it had it before.
pub lost_is_never_given : (t g : List ℕ) (x : Command) (r : ℕ) → r < messages → state (step t g x).table (MessageState r) ≡ state_lost → state t (MessageState r) ≡ state_lost
unfolding step lent
lost_is_never_given t g x r h =
    let f = MessageState r in
    cond_ind (λ (o : OutBoth). state o.table f ≡ state_lost → state t f ≡ state_lost) (length t == table_words)
    (λ l q. none_lost (state t) house g x f refl (sym (word_at (step_on house (state t) g x).left f (h, omega arith)) ∙ q)) (λ l q. q)

-- a call of a list too
pub lost_is_never_given_by_a_call : (t g : List ℕ) (x : Call) (r : ℕ) → r < messages → state (step_call t g x).table (MessageState r) ≡ state_lost → state t (MessageState r) ≡ state_lost
unfolding next step_call
lost_is_never_given_by_a_call t g x r h =
    let f = MessageState r in
    call_ind (λ q. state q.table f ≡ state_lost → state t f ≡ state_lost) (record { table = t; ledger = g; history = opening 0 0; citations = no_citations })
    (λ q c lent low so_far e. so_far (sym (word_at (put (state q.table) Served c) f (h, omega arith) ∙ put_other (state q.table) Served f c (λ z. absurd (let w : ◌≡◌ {A = ℕ} 0 1 = cc in omega arith))) ∙ e)) x (λ e. e)
    (λ q y part so_far e. so_far (lost_is_never_given q.table q.ledger y r h e))

-- along a list
lost_before : (s : Run) (l : List Call) (r : ℕ) → r < messages → state (runs s l).table (MessageState r) ≡ state_lost → state s.table (MessageState r) ≡ state_lost
unfolding runs next
lost_before s [] r h q = q
lost_before s (x ∷ l) r h q = lost_is_never_given_by_a_call s.table s.ledger x r h (lost_before (next x s) l r h q)

-- so in a house just opened no message is ever lost, whatever calls follow
pub no_message_is_lost : (t g : List ℕ) (n k : ℕ) (l : List Call) → (step t g (Open n k)).answer ≡ Done → (r : ℕ) → r < messages → state (up_to t g n k l).table (MessageState r) ≢ state_lost
unfolding just_opened open_house
no_message_is_lost t g n k l done r h q =
    let f = MessageState r in
    let lost = lost_before (just_opened t g n k) l r h q in
    let unused = ap (λ u. state u f) (opening_done t g n k done).table_is ∙ word_at (open_house n k) f (h, omega arith) in
    absurd (true≢false (sym (eq-eqb 0 state_lost (sym unused ∙ lost))))

-- 7. W2: "A message to the desk is released only with mask 0, at any K": on every table, where message m is for the desk.
pub desk_only_with_mask_0 : (t g : List ℕ) (m echoed mask : ℕ) → let σ = state t in
    for_desk σ (record_of σ m) ≡ true → (step t g (Release m)).answer ≡ Released echoed mask → mask ≡ 0
desk_only_with_mask_0 t g m echoed mask d = (publishes t g m d).nobody_named echoed mask

-- 8. W2: "Publishing appends one pair";
pub publishing_appends_one_pair : (t g : List ℕ) (m echoed mask : ℕ) → let σ = state t in let r = record_of σ m in
    for_desk σ r ≡ true → (step t g (Release m)).answer ≡ Released echoed mask → (step t g (Release m)).ledger ≡ appended g (entry_of σ m r)
publishing_appends_one_pair t g m echoed mask d = (publishes t g m d).ledger_is echoed mask

-- "an opening that is done clears the ledger";
pub opening_clears_the_ledger : (t g : List ℕ) (n k : ℕ) → (step t g (Open n k)).answer ≡ Done → (step t g (Open n k)).ledger ≡ blank_ledger house
opening_clears_the_ledger t g n k done = (opening_done t g n k done).ledger_is

-- "a release that doesn't publish changes no ledger word", nor does any other step: the ledger stays, or the step is one of these two.
pub ledger_stays_otherwise : (t g : List ℕ) (x : Command) → let o = step t g x in (o.ledger ≡ g) ⊎ Writes (state t) x o.answer
ledger_stays_otherwise = ledger_stays

-- 9. W2: a step other than O and R answers the same and leaves the same table whatever the ledger is.
pub no_look_at_the_ledger : (t g h : List ℕ) (x : Command) → looks_at_ledger x ≡ false → ((step t g x).answer ≡ (step t h x).answer) × ((step t g x).table ≡ (step t h x).table)
no_look_at_the_ledger = whatever_ledger

-- 10. W2, beyond demand 3: what a scholar cites is what was sent. For every list from an opening the ledger's pairs are, in order, the
-- messages for the desk that the list's releases let out, with the payloads of their sends.
pub cited_is_what_was_sent : (t g : List ℕ) (n k : ℕ) (l : List Call) → FromOpening t g n k l → Cited t g n k l
cited_is_what_was_sent = ledger_cites

-- "so that readings may be cited": every entry of the ledger is of a message that the list sent to the desk with that payload and let out with
-- nobody named, and the interval that sent it is live at the end, and lost in no crash.
pub every_citation_stands : (t g : List ℕ) (n k : ℕ) (l : List Call) → FromOpening t g n k l → AllCitable t g n k l
every_citation_stands = all_citable

-- 11. W4: "In a house where the first step after opening set Q to at least 1 and it was never 0 again, replayed is at most the largest Q set
-- so far, less 1."
pub replay_has_a_ceiling : (t g : List ℕ) (n k : ℕ) (l : List Call) → FromOpening t g n k l → NeverOff t g n k l → Ceiling t g n k l
replay_has_a_ceiling = ceiling

-- From every table of 15,152 words and every ledger of 257 there are such lists, one with a crash and one with a rollback that replay as
-- much as the ceiling allows: one interval, after a gap of 2. By then the gap is 1, so the newest gap would be no ceiling (Gapped.antt).
module _ (t g : List ℕ) (long : length t ≡ table_words) (wide : length g ≡ ledger_words house) where
  -- the calls of a list of lines, and the run before one of them
  abbrev first : ℕ → List ListingLine → List Call
  first j l = calls (asked (take j l))

  -- the largest gap and the newest one, before step j
  abbrev Gaps : List ListingLine → ℕ → Type 0
  Gaps l j = (largest_gap (just_opened t g 3 1) (first j l) ≡ 2) × ((up_to t g 3 1 (first j l)).history.gap ≡ 1)

  ceiling_of : {l : List ListingLine} {j : ℕ} → GapRun l j → Ceiling t g 3 1 (calls (asked l))
  ceiling_of {l} r = ceiling t g 3 1 (calls (asked l)) (gap_from_opening t g long wide r) (gap_never_off t g long wide r)

  pub crash_replays_one : 1 < largest_gap (just_opened t g 3 1) (first 6 crashing)
  crash_replays_one = (ceiling_of crashes).crashes (first 6 crashing) [] 1 1 0 2 0 1 refl (gap_answer t g long wide crashes)

  pub gaps_at_the_crash : Gaps crashing 6
  gaps_at_the_crash = (gap_largest t g long wide crashes, gap_newest t g long wide crashes)

  pub rollback_replays_one : 1 < largest_gap (just_opened t g 3 1) (first 12 rolling)
  rollback_replays_one = (ceiling_of rolls).rollbacks (first 12 rolling) [] 2 1 0 2 2 1 1 1 0 refl (gap_answer t g long wide rolls)

  pub gaps_at_the_rollback : Gaps rolling 12
  gaps_at_the_rollback = (gap_largest t g long wide rolls, gap_newest t g long wide rolls)

-- 12. W4: "New steps get a line in `house` only where a request names the letter": no letter and no line sets the gap.
pub no_letter_sets_the_gap : (letter a b c q : ℕ) → step_of letter a b c ≢ Some (SetGap q)
no_letter_sets_the_gap = no_letter

pub no_line_sets_the_gap : (line : List ℕ) (q : ℕ) → parse line ≢ Some (SetGap q)
no_line_sets_the_gap = no_line

-- 13. W6: "Operators read `dropped` and `rolled` and ask which controller to look at." For every list from an opening: a dropped delivery
-- names a crash that the receiver has heard and in which its controller lost what the message rests on, and there is no other such crash of
-- that controller or of one with a lower number. A rollback names the crash that it hears, which was not heard before, and each interval
-- that it undoes rests on what was lost in it.
pub answers_name_the_crash : (t g : List ℕ) (n k : ℕ) (l : List Call) → FromOpening t g n k l → Blame t g n k l
answers_name_the_crash = blame

-- So it is the crash to hear of: where a message was dropped in the list, by a delivery or by the dispatcher, and its sender has heard the crash that was named by the end, the
-- interval that sent the message is live no more.
pub hearing_it_undoes_the_sender : (t g : List ℕ) (n k : ℕ) (l : List Call) → FromOpening t g n k l → (before after : List Call) (x : Call) (m crashed i : ℕ) →
    l ≡ before ++ x ∷ after → DropsNaming x (call_in (up_to t g n k before) x).answer m crashed i →
    let y = (up_to t g n k before).history.sending m in
    (end t g n k l).heard y.owner crashed i ≡ true → member y ((end t g n k l).chain y.owner) ≡ false
hearing_it_undoes_the_sender = sender_undone

-- 14. A house in form stays in form: from an opening that is done, no call of any list is refused for its buffers, with 1 (the table's
-- length), 2 (its form) or 14 (the ledger). Whatever calls stand before it, openings too, are done or refused as they may be.
pub never_refused_for_its_buffers : (t g : List ℕ) (n k : ℕ) → (step t g (Open n k)).answer ≡ Done → (before : List Call) (x : Call) (number : ℕ) →
    (call_in (up_to t g n k before) x).answer ≡ Refused number → (number ≢ LENGTH) × (number ≢ FORM) × (number ≢ LEDGER)
unfolding step_call
never_refused_for_its_buffers t g n k done before (asks x) number =
    let r = up_to t g n k before in
    sound_let r.table r.ledger x number (sound_after t g n k done before)
never_refused_for_its_buffers t g n k done before dispatch number =
    let r = up_to t g n k before in
    sound_let_dispatch r.table r.ledger number (sound_after t g n k done before)
never_refused_for_its_buffers t g n k done before (release_set l) number =
    let r = up_to t g n k before in
    sound_let_set r.table r.ledger l number (sound_after t g n k done before)

-- and every table of such a list is in form
pub always_in_form : (t g : List ℕ) (n k : ℕ) → (step t g (Open n k)).answer ≡ Done → (l : List Call) →
    let u = (up_to t g n k l).table in
    (length u ≡ table_words) × (in_form house (state u) ≡ true)
always_in_form t g n k done l = let s = sound_after t g n k done l in (s.table.long, s.table.good)
