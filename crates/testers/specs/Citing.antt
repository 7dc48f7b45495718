-- The ledger of a house just opened says what the steps say: each call keeps that the table has the receivers and payloads that
-- the sends named, and that the ledger has what the releases let out to the desk.
use Rattle.std.specs.Prelude.{◌≡◌, Bool, ◌&&◌, ◌≢◌, ℕ, ◌≤◌, ◌<◌, get_or, ◌==◌}
use Rattle.std.proofs.Math.Path.{refl, ap, ap₂, subst}
use Rattle.std.proofs.Common.{sym, ◌∙◌, true≢false, arith, eqb-true, ne_eqb}
use Rattle.std.proofs.Math.Bool.{true, false, not, cond}
use mathlib.Core.List.{List, [], ◌∷◌, ◌++◌, append-nil}
use Rattle.std.proofs.Math.ListN.{length, length-append}
use Rattle.std.proofs.lemmas.Bool.{eqb-false}
use Rattle.base.specs.Choice.{cond_ind, le?}
use Rattle.base.specs.Cases.{Case, first_of}
use Rattle.table.specs.Field.{Field, State, OfMessage, Receiver, Payload, MessageState, word, desk, Served}
use Rattle.table.specs.Layout.{messages, message_words, table_words}
use Rattle.table.specs.Words.{state, words, Agree}
use Rattle.table.proofs.Words.{agree_words}
use Rattle.table.specs.Numbering.{used, next_message, record_of, posted}
use Rattle.table.proofs.Numbering.{posted_used, posted_new, posted_record, posted_at, posted_kept, posted_missing, none_used, used_agree, record_agree}
use Rattle.rules.specs.Limits.{house, last_entry}
use Rattle.rules.specs.Ledger.{count_of, entry_of, appended, blank_ledger}
use Rattle.rules.specs.Refusal.{LENGTH, FORM, LEDGER_USED_UP}
use Rattle.rules.specs.Vector.{Vector, mask}
use Rattle.rules.specs.Form.{in_form, state_released, state_published, for_desk}
use Rattle.rules.specs.Report.{report}
use Rattle.rules.specs.Steps.{After, after, refuse, refusing, AfterBoth, after_both, beside, refusing_both, open_house, open_refusals, step_open, message_record, sent, send_refusals, step_send, own_vector, let_out, release, release_refusals, step_release}
use Rattle.rules.specs.Step.{perform, looks_at_form, step_on, OutBoth, written_both, lent, step, asks, step_call}
use Rattle.rules.specs.declared.Answer.{Answer}
use Rattle.rules.specs.declared.Answer.TheVariants.{Done, Sent, Released, Refused}
use Rattle.rules.specs.declared.Command.{Command}
use Rattle.rules.specs.declared.Command.TheVariants.{Open, SetDegree, Send, Release, Deliver, Log, Checkpoint, Tell, Crash, Hear, SetGap}
use Rattle.history.specs.History.{changed_at, answers, value_at}
use Rattle.laws.specs.Records.{length_message_record}
use Rattle.laws.specs.Allowed.{send_allowed, release_allowed}
use Rattle.laws.specs.Answering.{not_done}
use Rattle.laws.specs.Releasing.{release_cases}
use Rattle.laws.specs.StepWords.{every_let_out}
use Rattle.laws.specs.Fixed.{Fixed, numbers_fixed, fixed_writable, plain, fixed_step}
use Rattle.history.specs.Demand.{Run, step_in, next, just_opened}
use Rattle.history.specs.Citations.{Citation, Citations, no_citations, sent_with, let_out_to, cited_step, cited, pair_of, ledger_of}
use Rattle.testers.specs.Ledgers.{count_ledger, ledger_none, ledger_more}
use Rattle.table.specs.Change.{put, put_ind}

-- THE TABLE
-- each message that is there has the receiver and the payload that its send named
pub record Named (σ : State) (q : Citations) : Type 0 where
  pub room : used σ ≤ messages
  pub receiver : (m : ℕ) → record_of σ m < used σ → σ (Receiver (record_of σ m)) ≡ q.receiver m
  pub payload : (m : ℕ) → record_of σ m < used σ → σ (Payload (record_of σ m)) ≡ q.payload m

-- so has a state with the same words
named_agree : (σ τ : State) (q : Citations) → Agree σ τ → Named τ q → Named σ q
named_agree σ τ q e h =
    let u = used_agree σ τ e in
    let rm = h.room in
    let room : used σ ≤ messages = omega arith in
    record {
      room = room;
      receiver = λ m l. let r = record_agree σ τ e m room in e (Receiver (record_of σ m)) (omega arith, omega arith) ∙ ap (λ r. τ (Receiver r)) r ∙ h.receiver m (omega arith);
      payload = λ m l. let r = record_agree σ τ e m room in e (Payload (record_of σ m)) (omega arith, omega arith) ∙ ap (λ r. τ (Payload r)) r ∙ h.payload m (omega arith);
    }

-- a change that leaves the words that no step but O and S writes leaves receivers and payloads
named_kept : (σ τ : State) (q : Citations) → ((f : Field) → Fixed σ f (τ f)) → Named σ q → Named τ q
named_kept σ τ q h n =
    let k = numbers_fixed σ τ h in
    let u = k.used_same in
    let rm = n.room in
    record {
      room = omega arith;
      receiver = λ m l. let r = k.record_same m in h (Receiver (record_of τ m)) refl ∙ ap (λ r. σ (Receiver r)) r ∙ n.receiver m (omega arith);
      payload = λ m l. let r = k.record_same m in h (Payload (record_of τ m)) refl ∙ ap (λ r. σ (Payload r)) r ∙ n.payload m (omega arith);
    }

-- S: a message put into its record
module _ (σ : State) (q : Citations) (n : Named σ q) (room : used σ < messages) (w : List ℕ) (long : length w ≡ message_words) (r p : ℕ)
    (re : get_or w (word (Receiver 0)) 0 ≡ r) (pe : get_or w (word (Payload 0)) 0 ≡ p) where
  -- one word of each message's record, k, which the sends have named as f
  posted_word : (k v : ℕ) (f : ℕ → ℕ) → k < message_words → get_or w k 0 ≡ v → ((m : ℕ) → record_of σ m < used σ → σ (OfMessage (record_of σ m) k) ≡ f m) →
      (m : ℕ) → record_of (posted σ w) m < used (posted σ w) → posted σ w (OfMessage (record_of (posted σ w) m) k) ≡ changed_at f (next_message σ) v m
  unfolding changed_at
  posted_word k v f kl ve h m l =
      cond_ind (λ x. posted σ w (OfMessage (record_of (posted σ w) m) k) ≡ x) (m == next_message σ)
      (λ e. ap (λ i. posted σ w (OfMessage i k)) (ap (record_of (posted σ w)) (eqb-true m (next_message σ) e) ∙ posted_new σ w) ∙ posted_at σ w k (omega arith) ∙ ve)
      (λ e. let there = old (eqb-false m (next_message σ) e) in
      let ne : record_of σ m ≢ used σ = λ z. absurd (omega arith) in
      ap (λ i. posted σ w (OfMessage i k)) (posted_record σ w m there) ∙ posted_kept σ w (OfMessage (record_of σ m) k) refl (rw (ne_eqb (record_of σ m) (used σ) ne)) ∙ h m there)
    where
      old : m ≢ next_message σ → record_of σ m < used σ
      old ne = le? (used σ) (record_of σ m) (λ u. absurd (omega (arith, posted_missing σ w m ne u))) (λ u. u)

  named_posted : Named (posted σ w) (sent_with q (next_message σ) r p)
  unfolding sent_with
  named_posted =
      record {
        room = omega (arith, posted_used σ w);
        receiver = posted_word (word (Receiver 0)) r q.receiver (omega arith) re n.receiver;
        payload = posted_word (word (Payload 0)) p q.payload (omega arith) pe n.payload;
      }

-- THE STEPS
-- a state and a ledger say what the citations say
pub record Cites (σ : State) (g : List ℕ) (q : Citations) : Type 0 where
  pub named : Named σ q
  pub few : length q.published ≤ last_entry
  pub ledger_is : g ≡ ledger_of q.published

-- a refused step feeds nothing
pub cited_refused : (x : Command) (number : ℕ) (q : Citations) → cited_step x (Refused number) q ≡ q
unfolding cited_step answers report
cited_refused (Open n k) number q = refl
cited_refused (SetDegree c k) number q = refl
cited_refused (Send s r p) number q = refl
cited_refused (Release m) number q = refl
cited_refused (Deliver m) number q = refl
cited_refused (Log c n) number q = refl
cited_refused (Checkpoint c) number q = refl
cited_refused (Tell a b) number q = refl
cited_refused (Crash c) number q = refl
cited_refused (Hear b a i) number q = refl
cited_refused (SetGap n) number q = refl

-- receiver and payload of a record
record_words : (st sender receiver i x payload : ℕ) (v : Vector) →
    (get_or (message_record st sender receiver i x payload v) (word (Receiver 0)) 0 ≡ receiver) × (get_or (message_record st sender receiver i x payload v) (word (Payload 0)) 0 ≡ payload)
unfolding message_record
record_words st sender receiver i x payload v = (refl, refl)

module _ (σ : State) (g : List ℕ) (q : Citations) (c : Cites σ g q) where
  -- after step x, which left o
  abbrev Goes : Command → AfterBoth → Type 0
  Goes x o = Cites o.left o.ledger (cited_step x o.answer q)

  goes_refused : (x : Command) (number : ℕ) → Goes x (beside (refuse number σ) g)
  goes_refused x number = subst (Cites σ g) (sym (cited_refused x number q)) c

  -- a step that leaves receivers, payloads and the ledger, and feeds nothing
  goes_beside : (x : Command) (o : AfterBoth) → ((f : Field) → Fixed σ f (o.left f)) → o.ledger ≡ g → cited_step x o.answer q ≡ q → Goes x o
  goes_beside x o h e n =
      subst (Cites o.left o.ledger) (sym n) (record { named = named_kept σ o.left q h c.named; few = c.few; ledger_is = e ∙ c.ledger_is })

  -- S
  goes_sent : (sender receiver payload : ℕ) → used σ < messages → Goes (Send sender receiver payload) (beside (after (Sent (next_message σ)) (sent σ sender receiver payload)) g)
  unfolding cited_step answers value_at report sent sent_with
  goes_sent sender receiver payload room =
      record {
        named = named_posted σ q c.named room _ (length_message_record _ _ _ _ _ _ _) receiver payload (record_words _ _ _ _ _ _ _).0 (record_words _ _ _ _ _ _ _).1;
        few = c.few;
        ledger_is = c.ledger_is;
      }

  -- R: message m, in its record, is let out
  module _ (m : ℕ) (l : record_of σ m < used σ) where
    abbrev r : ℕ
    r = record_of σ m

    abbrev citation : Citation
    citation = record { message = m; payload = q.payload m }

    -- it is for the desk, or not, by its send
    published_as : (b : Bool) → for_desk σ r ≡ b → (let_out_to q m).published ≡ q.published ++ cond b (citation ∷ []) []
    unfolding let_out_to
    published_as b e = ap (λ b. q.published ++ cond b (citation ∷ []) []) (ap (λ x. x == desk) (sym (c.named.receiver m l)) ∙ e)

    let_named : (v : Vector) (st : ℕ) → Fixed σ (MessageState r) st → Named (let_out σ r v st) (let_out_to q m)
    unfolding let_out_to
    let_named v st k =
        let n = named_kept σ (let_out σ r v st) q (every_let_out (Fixed σ) (fixed_writable σ) r st v k (λ f _. refl)) c.named in
        record { room = n.room; receiver = n.receiver; payload = n.payload }

    -- to a controller
    goes_let : (v : Vector) (mask : ℕ) → for_desk σ r ≡ false → Goes (Release m) (after_both (Released m mask) (let_out σ r v state_released) g)
    unfolding cited_step answers report
    goes_let v mask e =
        let p = published_as false e ∙ append-nil q.published in
        record {
          named = let_named v state_released (λ e. absurd (true≢false (sym e)));
          few = subst (λ cs. length cs ≤ last_entry) (sym p) c.few;
          ledger_is = c.ledger_is ∙ ap ledger_of (sym p);
        }

    -- to the desk
    goes_publish : (v : Vector) (mask : ℕ) → for_desk σ r ≡ true → count_of g < last_entry →
        Goes (Release m) (after_both (Released m mask) (let_out σ r v state_published) (appended g (entry_of σ m r)))
    unfolding cited_step answers report
    goes_publish v mask e room =
        let p = published_as true e in
        let n = ap count_of c.ledger_is ∙ count_ledger q.published in
        let entry : entry_of σ m r ≡ pair_of citation = ap (λ x. m ∷ x ∷ []) (c.named.payload m l) in
        record {
          named = let_named v state_published (λ e. absurd (true≢false (sym e)));
          few = subst (λ cs. length cs ≤ last_entry) (sym p) (omega (arith, length-append q.published (citation ∷ [])));
          ledger_is = ap₂ appended c.ledger_is entry ∙ ledger_more q.published citation (omega arith) ∙ ap ledger_of (sym p);
        }

  -- R, after its refusals
  goes_release : (m : ℕ) → record_of σ m < used σ → Goes (Release m) (release house σ g m (record_of σ m))
  unfolding cited_step answers report
  goes_release m l =
      let v = own_vector σ (record_of σ m) in
      release_cases house σ g m (record_of σ m) (Goes (Release m)) (λ _. c) (λ _ e. goes_let m l v (mask v) e) (λ _ _. goes_refused (Release m) LEDGER_USED_UP)
      (λ _ e room. goes_publish m l v (mask v) e room)

  -- the steps after their refusals
  goes_refusing : (x : Command) (cases : List Case) (o : After) → (0 ≡ first_of cases → Goes x (beside o g)) → Goes x (beside (refusing cases σ o) g)
  unfolding refusing
  goes_refusing x cases o h = cond_ind (λ o. Goes x (beside o g)) (first_of cases == 0) (λ e. h (sym (eqb-true (first_of cases) 0 e))) (λ _. goes_refused x (first_of cases))

  goes_refusing_both : (x : Command) (cases : List Case) (o : AfterBoth) → (0 ≡ first_of cases → Goes x o) → Goes x (refusing_both cases σ g o)
  unfolding refusing_both
  goes_refusing_both x cases o h = cond_ind (Goes x) (first_of cases == 0) (λ e. h (sym (eqb-true (first_of cases) 0 e))) (λ _. goes_refused x (first_of cases))

  -- an opening that isn't done
  goes_open : (n k : ℕ) → (step_open house σ g n k).answer ≢ Done → Goes (Open n k) (step_open house σ g n k)
  unfolding step_open refusing_both
  goes_open n k =
      let cases = open_refusals house g n k in
      cond_ind (λ (o : AfterBoth). o.answer ≢ Done → Goes (Open n k) o) (first_of cases == 0) (λ _ ne. absurd (ne refl)) (λ _ _. goes_refused (Open n k) (first_of cases))

  -- the other steps leave receivers, payloads and the ledger
  goes_other : (x : Command) → plain x ≡ true → (perform house σ g x).ledger ≡ g → ((a : Answer) → cited_step x a q ≡ q) → Goes x (step_on house σ g x)
  unfolding step_on
  goes_other x p e n =
      goes_beside x (step_on house σ g x) (fixed_step house σ g x p)
      (cond_ind (λ (o : AfterBoth). o.ledger ≡ g) (looks_at_form x && not (in_form house σ)) (λ _. refl) (λ _. e)) (n _)

  -- every step but an opening that is done
  goes : (x : Command) → ((n k : ℕ) → x ≡ Open n k → (step_on house σ g x).answer ≢ Done) → Goes x (step_on house σ g x)
  unfolding step_on perform step_send step_release cited_step
  goes (Open n k) ne = goes_open n k (ne n k refl)
  goes (Send s to p) ne =
      cond_ind (Goes (Send s to p)) (not (in_form house σ)) (λ _. goes_refused (Send s to p) FORM)
      (λ _. goes_refusing (Send s to p) (send_refusals house σ s to) _ (λ e. goes_sent s to p (send_allowed house σ s to e).room))
  goes (Release m) ne =
      cond_ind (Goes (Release m)) (not (in_form house σ)) (λ _. goes_refused (Release m) FORM)
      (λ _. goes_refusing_both (Release m) (release_refusals house σ g (record_of σ m)) _ (λ e. goes_release m (release_allowed house σ g (record_of σ m) e).0.record_used))
  goes (SetDegree b k) ne = goes_other (SetDegree b k) refl refl (λ _. refl)
  goes (Deliver m) ne = goes_other (Deliver m) refl refl (λ _. refl)
  goes (Log b n) ne = goes_other (Log b n) refl refl (λ _. refl)
  goes (Checkpoint b) ne = goes_other (Checkpoint b) refl refl (λ _. refl)
  goes (Tell a b) ne = goes_other (Tell a b) refl refl (λ _. refl)
  goes (Crash b) ne = goes_other (Crash b) refl refl (λ _. refl)
  goes (Hear b a i) ne = goes_other (Hear b a i) refl refl (λ _. refl)
  goes (SetGap n) ne = goes_other (SetGap n) refl refl (λ _. refl)

-- ON TABLES
-- a run's table and ledger say what its citations say
abbrev pub RunCites : Run → Type 0
RunCites r = Cites (state r.table) r.ledger r.citations

on_words : (σ : State) {g : List ℕ} {q : Citations} → Cites σ g q → Cites (state (words σ)) g q
on_words σ c = record { named = named_agree _ σ _ (agree_words σ refl) c.named; few = c.few; ledger_is = c.ledger_is }

-- whoever was served last
pub cites_served : (t : List ℕ) (c : ℕ) {g : List ℕ} {q : Citations} → Cites (state t) g q → Cites (state (words (put (state t) Served c))) g q
cites_served t c {q = q} w =
    let σ = state t in
    on_words (put σ Served c)
    (record { named = named_kept σ (put σ Served c) q (put_ind (Fixed σ) σ Served c (λ e. absurd (true≢false (sym e))) (λ f _ _. refl)) w.named; few = w.few; ledger_is = w.ledger_is })

-- each step but an opening that is done keeps that
pub cites_next : (r : Run) (x : Command) → ((n k : ℕ) → x ≡ Open n k → (step_in r x).answer ≢ Done) → RunCites r → RunCites (next (asks x) r)
unfolding next step_call step lent cited
cites_next r x ne c =
    let t = r.table in
    let g = r.ledger in
    cond_ind
    (λ (o : OutBoth). ((n k : ℕ) → x ≡ Open n k → o.answer ≢ Done) → Cites (state o.table) o.ledger (cited_step x o.answer r.citations))
    (length t == table_words) (λ _ ne. on_words _ (goes (state t) g r.citations c x ne)) (λ _ _. goes_refused (state t) g r.citations c x LENGTH)
    ne

-- so does one that is done, whatever stood there
opened_cites : (n k : ℕ) → Cites (open_house n k) (blank_ledger house) no_citations
unfolding open_house
opened_cites n k =
    let none = none_used (open_house n k) refl in
    record {
      named = record { room = omega arith; receiver = λ m l. absurd (omega arith); payload = λ m l. absurd (omega arith) };
      few = omega arith;
      ledger_is = ledger_none;
    }

pub cites_opened : (t g : List ℕ) (n k : ℕ) → (step t g (Open n k)).answer ≡ Done → RunCites (just_opened t g n k)
unfolding just_opened step lent step_on perform step_open refusing_both report
cites_opened t g n k =
    let cites : OutBoth → Type 0 = λ o. o.answer ≡ Done → Cites (state o.table) o.ledger no_citations in
    let cases = open_refusals house g n k in
    cond_ind cites (length t == table_words)
    (λ _. cond_ind (λ (o : AfterBoth). cites (written_both o)) (first_of cases == 0) (λ _ _. on_words _ (opened_cites n k)) (λ _. not_done (first_of cases)))
    (λ _. not_done _)
