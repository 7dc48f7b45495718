-- A list of lines that gets its answers, from an opening: what it shows of the list of its calls, in the words of history/specs/Progress.antt
-- and Asked.antt.
use Rattle.std.specs.Prelude.{◌≡◌, refl, Bool, true, false, not, ◌&&◌, List, [], ◌∷◌, ◌++◌, ℕ, zero, suc, ◌<◌, length, ◌==◌}
use Rattle.std.proofs.Math.Path.{sym, ap, subst}
use Rattle.std.proofs.Common.{ap₂, ◌∙◌, append_assoc, inl, ⊎_elim, arith, take-append-drop, take_all}
use Rattle.std.proofs.Math.Bool.{true≢false}
use Rattle.std.proofs.lemmas.List.{map-append}
use Rattle.std.proofs.Math.Logic.{inr}
use Rattle.std.proofs.Math.ListN.{take, drop}
use borrow.Author.Tests.{eq-eqb}
use Rattle.base.specs.Choice.{and_left, and_right}
use Rattle.table.specs.Layout.{table_words}
use Rattle.rules.specs.Limits.{house}
use Rattle.rules.specs.Refusal.{MESSAGE, STATE}
use Rattle.rules.specs.Ledger.{ledger_words}
use Rattle.rules.specs.Report.{report}
use Rattle.rules.specs.Step.{Call, asks, release_set, step_call}
use Rattle.rules.specs.declared.Answer.{Answer}
use Rattle.rules.specs.declared.Answer.TheVariants.{Done, Sent, Released, Held, Crashed, Refused}
use Rattle.rules.specs.declared.Command.{Command}
use Rattle.rules.specs.declared.Command.TheVariants.{Open, SetDegree, Send, Release, Deliver, Log, Checkpoint, Tell, Crash, Hear, SetGap}
use Rattle.history.specs.History.{Interval, History, member, losing, opening, answers, value_at}
use Rattle.history.specs.Demand.{Run, call_in, step_in, next, runs, just_opened, LetsGo, alone, together, FromOpening, up_to, end}
use Rattle.history.specs.Progress.{Orphan, SentIn, HoldsBack, held_alone, HeldIn, LetOutIn, NotLetOut, Deliverable, CrashIn, HasHeard}
use Rattle.history.specs.Asked.{Secures, SecuredIn, Asked}
use Rattle.history.specs.Examples.{ListingLine, line, all}
use Rattle.model.specs.Tests.{Is}
use Rattle.model.proofs.Tests.{fails, contrary}
use Rattle.model.proofs.Chain.{member_cases}
use Rattle.model.proofs.Runs.{first_part}
use Rattle.testers.specs.Refused.{answers_differ}
use Rattle.testers.specs.Sample.{asked, calls, answers_from, all_look}
use Rattle.testers.proofs.Sample.{from_opening, run_answered}
use Rattle.testers.proofs.Along.{Answered, head_answered, tail_answered, history_at}
use Rattle.paper.specs.Whenever.{secured_since}
use Rattle.instances.specs.Lists.{calls_of, Computed}

-- ALONG LINES
-- the calls of two parts
calls_append : (l l' : List ListingLine) → calls_of (l ++ l') ≡ calls_of l ++ calls_of l'
calls_append l l' = ap (λ xs. calls xs) (map-append _ l l') ∙ map-append _ (asked l) (asked l')

-- the first part gets its answers
answered_first : (r : Run) (l l' : List ListingLine) → Answered r (l ++ l') → Answered r l
unfolding answers_from step_call next
answered_first r [] l' a = refl
answered_first r (x ∷ l) l' a = ap₂ ◌∷◌ (head_answered r x (l ++ l') a) (answered_first (next (asks x.asked) r) l l' (tail_answered r x (l ++ l') a))

-- and so does each line
answered_at : (r : Run) (before : List ListingLine) (x : ListingLine) (after : List ListingLine) → Answered r (before ++ x ∷ after) →
    (step_in (runs r (calls_of before)) x.asked).answer ≡ x.answered
unfolding runs
answered_at r [] x after a = head_answered r x after a
answered_at r (y ∷ before) x after a = answered_at (next (asks y.asked) r) before x after (tail_answered r y (before ++ x ∷ after) a)

-- a test of each release, by its message and its answer, and of each crash, by its controller and its answer
unfoldable pub judged : (ℕ → Answer → Bool) → (ℕ → Answer → Bool) → Command → Answer → Bool
judged release crash (Open n k) a = true
judged release crash (SetDegree c k) a = true
judged release crash (Send s r p) a = true
judged release crash (Release m) a = release m a
judged release crash (Deliver m) a = true
judged release crash (Log c q) a = true
judged release crash (Checkpoint c) a = true
judged release crash (Tell teller hearer) a = true
judged release crash (Crash c) a = crash c a
judged release crash (Hear b crashed i) a = true
judged release crash (SetGap q) a = true

-- each line of a list passes a test
unfoldable pub passes : (Command → Answer → Bool) → List ListingLine → Bool
passes p [] = true
passes p (x ∷ l) = p x.asked x.answered && passes p l

-- and so does each call of one that gets these answers
each_call : (p : Command → Answer → Bool) (r : Run) (l : List ListingLine) → Answered r l → passes p l ≡ true →
    (before after : List Call) (x : Command) → calls_of l ≡ before ++ asks x ∷ after → p x (step_in (runs r before) x).answer ≡ true
unfolding passes runs
each_call p r [] a o [] after x e = absurd (let z : ◌≡◌ {A = ℕ} 0 1 = cc in omega arith)
each_call p r [] a o (b ∷ before) after x e = absurd (let z : ◌≡◌ {A = ℕ} 0 1 = cc in omega arith)
each_call p r (y ∷ l) a o [] after x e =
    let first : x ≡ y.asked = cc in
    subst (λ z. p z (step_in r z).answer ≡ true) (sym first)
    (subst (λ z. p y.asked z ≡ true) (sym (head_answered r y l a)) (and_left (p y.asked y.answered) (passes p l) o))
each_call p r (y ∷ l) a o (b ∷ before) after x e =
    let first : b ≡ asks y.asked = cc in
    let rest : calls_of l ≡ before ++ asks x ∷ after = cc in
    subst (λ z. p x (step_in (runs (next z r) before) x).answer ≡ true) (sym first)
    (each_call p (next (asks y.asked) r) l (tail_answered r y l a) (and_right (p y.asked y.answered) (passes p l) o) before after x rest)

-- such a list has no set
only_steps : (l : List ListingLine) (before : List Call) (messages : List ℕ) (after : List Call) → calls_of l ≡ before ++ release_set messages ∷ after → ⊥
only_steps [] [] messages after e = absurd (let z : ◌≡◌ {A = ℕ} 0 1 = cc in omega arith)
only_steps [] (b ∷ before) messages after e = absurd (let z : ◌≡◌ {A = ℕ} 0 1 = cc in omega arith)
only_steps (y ∷ l) [] messages after e = absurd (let z : ◌≡◌ {A = ℕ} 0 1 = cc in omega arith)
only_steps (y ∷ l) (b ∷ before) messages after e = only_steps l before messages after (let rest : calls_of l ≡ before ++ release_set messages ∷ after = cc in rest)

-- the test that no release lets out m, and the one that b has heard each crash by the history h
abbrev pub holding : ℕ → Command → Answer → Bool
holding m = judged (λ i a. not ((i == m) && answers a (Released 0 0))) (λ c a. true)

abbrev pub hears : History → ℕ → Command → Answer → Bool
hears h b = judged (λ m a. true) (λ c a. h.heard b c (value_at a 1))

-- LOSSES
-- all intervals of a list are stable
unfoldable pub all_stable : History → List Interval → Bool
all_stable h [] = true
all_stable h (y ∷ l) = h.stable y && all_stable h l

stable_in : (h : History) (l : List Interval) → all_stable h l ≡ true → (y : Interval) → Is (member y l) → Is (h.stable y)
unfolding all_stable member
stable_in h [] e y m = contrary m refl
stable_in h (z ∷ l) e y m =
    ⊎_elim (λ is. subst (λ (y : Interval). Is (h.stable y)) (sym is) (and_left (h.stable z) (all_stable h l) e)) (stable_in h l (and_right (h.stable z) (all_stable h l) e) y)
    (member_cases y z l m)

-- a crash loses nothing where all that is live is stable
pub none_lost : (h : History) (c : ℕ) → all_stable h (h.chain c) ≡ true → (y : Interval) (i : ℕ) → h.lost y i ≡ false → (losing h c).lost y i ≡ false
unfolding losing
none_lost h c e y i before =
    rw before (fails _ (λ z. let gone = and_right (i == h.incarnation c) _ z in
    contrary (stable_in h (h.chain c) e y (and_left (member y (h.chain c)) _ gone)) (not-true _ (and_right (member y (h.chain c)) _ gone))))
  where
    not-true : (b : Bool) → not b ≡ true → b ≡ false
    not-true true q = absurd (true≢false (sym q))
    not-true false q = refl

-- a fact of each controller of a house of three
pub three : (P : ℕ → Type 0) → P 0 → P 1 → P 2 → (c : ℕ) → c < 3 → P c
three P a b d zero l = a
three P a b d (suc zero) l = b
three P a b d (suc (suc zero)) l = d
three P a b d (suc (suc (suc c))) l = absurd (omega arith)

-- LISTS
-- the history that lines tell
abbrev pub history_of : List ListingLine → History
history_of l = all l (opening 3 1)

module _ (t g : List ℕ) where
  -- a list from the opening of a house of three, all with the degree 1, that gets its answers
  pub record Shown (l : List ListingLine) : Type 0 where
    pub from : FromOpening t g 3 1 (calls_of l)
    pub answers : Answered (just_opened t g 3 1) l

  -- one that was computed on states
  pub shown : length t ≡ table_words → length g ≡ ledger_words house → (l : List ListingLine) → all_look (calls_of l) ≡ true → Computed l → Shown l
  shown long wide l looks run = record { from = from_opening t g long wide (calls_of l) looks; answers = run_answered t g long wide l run }

  -- its first part is another
  pub first_shown : (l l' : List ListingLine) → Shown (l ++ l') → Shown l
  first_shown l l' s =
      record {
        from = first_part (calls_of l) (calls_of l') (subst (FromOpening t g 3 1) (calls_append l l') s.from);
        answers = answered_first (just_opened t g 3 1) l l' s.answers;
      }

  -- up to line j
  pub shown_to : (l : List ListingLine) → Shown l → (j : ℕ) → Shown (take j l)
  shown_to l s j = first_shown (take j l) (drop j l) (subst Shown (sym (take-append-drop j l)) s)

  module _ (l : List ListingLine) (s : Shown l) where
    abbrev h : History
    h = end t g 3 1 (calls_of l)

    -- it has the history that its lines tell
    pub history_is : h ≡ history_of l
    unfolding just_opened
    history_is =
        let start = just_opened t g 3 1 in
        subst (λ z. (runs start (calls_of z)).history ≡ all z start.history) (take_all (length l) l (omega arith)) (history_at start l s.answers (length l))

    -- so what these tell holds
    pub told : (P : History → Type 0) → P (history_of l) → P h
    told P = subst P (sym history_is)

    -- it has no orphan where they tell of no loss,
    pub no_orphan : ((y : Interval) (i : ℕ) → (history_of l).lost y i ≡ false) → (y : Interval) → Orphan h y → ⊥
    no_orphan none y o = contrary o.lost (ap (λ h. h.lost o.on o.crash) history_is ∙ none o.on o.crash)

    -- lets out no message that the first test finds held,
    none_goes : (before after : List Call) {x : Call} {a : Answer} {m mask : ℕ} → LetsGo x a m mask → passes (holding m) l ≡ true → calls_of l ≡ before ++ x ∷ after →
        (call_in (up_to t g 3 1 before) x).answer ≡ a → ⊥
    unfolding judged answers report step_call
    none_goes before after (alone m echoed mask) o e answer =
        let q = each_call (holding m) (just_opened t g 3 1) l s.answers o before after (Release m) e in
        true≢false (sym (rw (answer, eq-eqb m m refl) at q))
    none_goes before after (together messages i mask below) o e answer = only_steps l before messages after e

    pub not_let_out : (m : ℕ) → passes (holding m) l ≡ true → NotLetOut t g 3 1 (calls_of l) m
    not_let_out m o mask out = none_goes out.before out.after out.lets_go o out.is_in refl

    -- and has no crash that b has not heard, if it passes the second
    pub has_heard : (b : ℕ) → passes (hears (history_of l) b) l ≡ true → HasHeard t g 3 1 (calls_of l) b
    unfolding judged value_at report
    has_heard b o c i crash =
        let q = each_call (hears (history_of l) b) (just_opened t g 3 1) l s.answers o crash.before crash.after (Crash c) crash.is_in in
        ap (λ h. h.heard b c i) history_is ∙ sym (ap (λ z. (history_of l).heard b c (value_at z 1)) crash.answer) ∙ q

    -- where a line stands in it
    module _ (before : List ListingLine) (x : ListingLine) (after : List ListingLine) (e : l ≡ before ++ x ∷ after) where
      -- so does its call,
      calls_in : calls_of l ≡ calls_of before ++ asks x.asked ∷ calls_of after
      calls_in = ap calls_of e ∙ calls_append before (x ∷ after)

      -- and it gets its answer
      pub answer_in : (step_in (up_to t g 3 1 (calls_of before)) x.asked).answer ≡ x.answered
      answer_in = answered_at (just_opened t g 3 1) before x after (subst (Answered (just_opened t g 3 1)) e s.answers)

    -- line j is a delivery that is not refused: up to there its message can be delivered
    pub deliverable_by : (j m : ℕ) (a : Answer) → l ≡ take j l ++ line (Deliver m) a ∷ drop (suc j) l → ((report a).number == (report (Refused 0)).number) ≡ false →
        Deliverable t g 3 1 (calls_of (take j l)) m
    unfolding report
    deliverable_by j m a e is =
        let given = answer_in (take j l) (line (Deliver m) a) (drop (suc j) l) e in
        record { is_there = λ z. answers_differ a (Refused MESSAGE) is (sym given ∙ z); is_released_lem = λ z. answers_differ a (Refused STATE) is (sym given ∙ z) }

    -- a crash
    pub crash_by : (j c i kept lost replayed : ℕ) → l ≡ take j l ++ line (Crash c) (Crashed c i kept lost replayed) ∷ drop (suc j) l → CrashIn t g 3 1 (calls_of l) c i
    crash_by j c i kept lost replayed e =
        let x = line (Crash c) (Crashed c i kept lost replayed) in
        record {
          before = calls_of (take j l);
          after = calls_of (drop (suc j) l);
          echoed = c;
          kept = kept;
          lost = lost;
          replayed = replayed;
          is_in = calls_in (take j l) x (drop (suc j) l) e;
          answer = answer_in (take j l) x (drop (suc j) l) e;
        }

    -- a send
    pub sent_by : (j m sender receiver payload : ℕ) → l ≡ take j l ++ line (Send sender receiver payload) (Sent m) ∷ drop (suc j) l → SentIn t g 3 1 (calls_of l) m
    sent_by j m sender receiver payload e =
        let x = line (Send sender receiver payload) (Sent m) in
        record {
          before = calls_of (take j l);
          after = calls_of (drop (suc j) l);
          sender = sender;
          receiver = receiver;
          payload = payload;
          is_in = calls_in (take j l) x (drop (suc j) l) e;
          answer = answer_in (take j l) x (drop (suc j) l) e;
        }

    -- a release that was held,
    pub held_by : (j m mask : ℕ) → l ≡ take j l ++ line (Release m) (Held m mask) ∷ drop (suc j) l → HeldIn t g 3 1 (calls_of l) m mask
    unfolding step_call
    held_by j m mask e =
        let x = line (Release m) (Held m mask) in
        record {
          before = calls_of (take j l);
          call = asks (Release m);
          after = calls_of (drop (suc j) l);
          is_in = calls_in (take j l) x (drop (suc j) l) e;
          holds_back = subst (λ a. HoldsBack (asks (Release m)) a m mask) (sym (answer_in (take j l) x (drop (suc j) l) e)) (held_alone m m mask);
        }

    -- and one that let its message out
    pub goes_by : (j m mask : ℕ) → l ≡ take j l ++ line (Release m) (Released m mask) ∷ drop (suc j) l →
        LetsGo (asks (Release m)) (call_in (up_to t g 3 1 (calls_of (take j l))) (asks (Release m))).answer m mask
    unfolding step_call
    goes_by j m mask e =
        subst (λ a. LetsGo (asks (Release m)) a m mask) (sym (answer_in (take j l) (line (Release m) (Released m mask)) (drop (suc j) l) e)) (alone m m mask)

    pub out_by : (j m mask : ℕ) → l ≡ take j l ++ line (Release m) (Released m mask) ∷ drop (suc j) l → LetOutIn t g 3 1 (calls_of l) m mask
    out_by j m mask e =
        record {
          before = calls_of (take j l);
          call = asks (Release m);
          after = calls_of (drop (suc j) l);
          is_in = calls_in (take j l) (line (Release m) (Released m mask)) (drop (suc j) l) e;
          lets_go = goes_by j m mask e;
        }

    -- a step that secures c, when message m had been sent,
    unfoldable secured_by : (m c j : ℕ) (x : ListingLine) → l ≡ take j l ++ x ∷ drop (suc j) l → Secures c x.asked x.answered → SentIn t g 3 1 (calls_of (take j l)) m →
        SecuredIn t g 3 1 (calls_of l) m c
    secured_by m c j x e secures sent =
        secured_since t g 3 1 (calls_of l) s.from m c (calls_of (take j l)) x.asked (calls_of (drop (suc j) l)) (calls_in (take j l) x (drop (suc j) l) e)
        (subst (Secures c x.asked) (sym (answer_in (take j l) x (drop (suc j) l) e)) secures) sent

    -- so c was asked for itself
    pub own_asked_by : (m c j : ℕ) (x : ListingLine) → l ≡ take j l ++ x ∷ drop (suc j) l → Secures c x.asked x.answered → SentIn t g 3 1 (calls_of (take j l)) m →
        Asked t g 3 1 (calls_of l) m c c
    own_asked_by m c j x e secures sent = record { point = secured_by m c j x e secures sent; tell = inl refl }

    -- and d lines after it a telling: c was asked for b
    pub asked_by_lem : (m b c j : ℕ) (x : ListingLine) → let rest = drop (suc j) l in
        l ≡ take j l ++ x ∷ rest → Secures c x.asked x.answered → SentIn t g 3 1 (calls_of (take j l)) m → (d : ℕ) → rest ≡ take d rest ++ line (Tell c b) Done ∷ drop (suc d) rest →
        Asked t g 3 1 (calls_of l) m b c
    unfolding secured_by secured_since
    asked_by_lem m b c j x e secures sent d e' =
        let rest = drop (suc j) l in
        let y = line (Tell c b) Done in
        let first = take j l ++ x ∷ take d rest in
        let whole : l ≡ first ++ y ∷ drop (suc d) rest = e ∙ ap (λ z. take j l ++ x ∷ z) e' ∙ sym (append_assoc (take j l) (x ∷ take d rest) (y ∷ drop (suc d) rest)) in
        record {
          point = secured_by m c j x e secures sent;
          tell = inr (record {
            between = calls_of (take d rest);
            after = calls_of (drop (suc d) rest);
            is_in = ap calls_of e' ∙ calls_append (take d rest) (y ∷ drop (suc d) rest);
            answer = subst (λ z. (step_in (up_to t g 3 1 z) (Tell c b)).answer ≡ Done) (calls_append (take j l) (x ∷ take d rest)) (answer_in first y (drop (suc d) rest) whole);
          });
        }
