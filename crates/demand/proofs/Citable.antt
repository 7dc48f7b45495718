-- Every entry of the ledger may be cited: along a list, each message that the citations have for the desk was sent so by a send of the list,
-- and each entry is one of these that a release or a set let out, of which demand 3 says that the interval that sent it stands.
use Rattle.std.proofs.Math.Path.{◌≡◌, refl, ap, subst}
use Rattle.std.proofs.Common.{sym, ◌∙◌, arith, length-append, eqb-true, ◌==◌}
use Rattle.std.specs.Prelude.{Bool, ℕ, ◌+◌, ◌≤◌, ◌<◌, length}
use Rattle.std.proofs.Math.Bool.{true, false, cond}
use mathlib.Core.List.{List, [], ◌∷◌, ◌++◌, append-nil}
use Rattle.std.proofs.Math.ListN.{get_or-append}
use Rattle.std.proofs.lemmas.List.{get_or_at}
use Rattle.base.specs.Choice.{cond_ind, le?}
use Rattle.table.specs.Field.{desk}
use Rattle.rules.specs.Ledger.{count_of, cited_message, cited_payload}
use Rattle.rules.specs.Report.{report}
use Rattle.rules.specs.Step.{Call, asks, step_call}
use Rattle.rules.specs.declared.Answer.TheVariants.{Sent}
use Rattle.rules.specs.declared.Command.{Command}
use Rattle.rules.specs.declared.Command.TheVariants.{Send}
use Rattle.history.specs.History.{Interval, History, member, changed_at, sent_from, answers, value_at, fed_step, fed}
use Rattle.history.specs.Citations.{Citation, Citations, no_citations, sent_with, let_out_to, cited}
use Rattle.history.specs.Demand.{Run, call_in, step_in, next, just_opened, LetsGo, FromOpening, up_to, end}
use Rattle.history.specs.Progress.{SentIn}
use Rattle.history.specs.Citable.{newest_then, Citable, AllCitable}
use Rattle.model.specs.Model.{Model}
use Rattle.model.proofs.Tests.{changed_at_same}
use Rattle.calls.specs.Made.{part_itself, part_out}
use Rattle.model.proofs.Runs.{AtStep, in_list, along}
use Rattle.image.specs.Outcome.{Outcome}
use Rattle.image.proofs.Tables.{model_of, size_of}
use Rattle.testers.specs.Ledgers.{citation_at, count_ledger, message_cited, payload_cited}
use Rattle.demand.specs.Demanded.{sent_last, outcome, follows, demand_3}
use Rattle.demand.proofs.Beyond.{run_cites}
use Rattle.demand.specs.Citable.{cited_ind}

-- a fact of each citation, with one more
each_more : (P : Citation → Type 0) (cs : List Citation) (c : Citation) → ((j : ℕ) → j < length cs → P (citation_at cs j)) → P c →
    (j : ℕ) → j < length (cs ++ c ∷ []) → P (citation_at (cs ++ c ∷ []) j)
each_more P cs c each one j l =
    le? (j + 1) (length cs) (λ u. subst P (sym (get_or-append cs (c ∷ []) _ j (omega arith))) (each j (omega arith)))
    (λ u. subst P (sym (get_or_at cs c [] _ j (omega (arith, length-append cs (c ∷ []))))) one)

module _ (t g : List ℕ) (n k : ℕ) (l : List Call) (O : FromOpening t g n k l) where
  -- the history at its end
  abbrev h : History
  h = end t g n k l

  -- a message that was sent has at the end the receiver that its send named, and was sent from what was then the newest live interval of its
  -- sender: no number is given twice
  sent_as : (m : ℕ) (s : SentIn t g n k l m) → (h.receiver m ≡ s.receiver) × (h.sending m ≡ newest_then t g n k l s)
  unfolding next step_call fed fed_step answers value_at report sent_from
  sent_as m s =
      let r = up_to t g n k s.before in
      let y = Send s.sender s.receiver s.payload in
      let x = asks y in
      let c = in_list (follows n) t g k l O s.before x s.after s.is_in in
      let u = (call_in r x).table in
      let there = (sent_last (subst (λ a. Outcome n c.holds.model y a (size_of u) (model_of u)) s.answer (outcome y c.holds.reads))).1 in
      let below : m ≤ c.one.holds.model.sent = subst (λ (μ : Model). m ≤ μ.sent) c.one.holds.reads.model_is there in
      let then : (next x r).history ≡ sent_from r.history m s.sender s.receiver = ap (λ a. fed x a r.history) s.answer in
      let whole = ap (λ z. end t g n k z) s.is_in in (
        ap (λ (h : History). h.receiver m) whole ∙ c.rest.keeps.receiver_same m below ∙ ap (λ (h : History). h.receiver m) then ∙ changed_at_same _ m _,
        ap (λ (h : History). h.sending m) whole ∙ c.rest.keeps.sending_same m below ∙ ap (λ (h : History). h.sending m) then ∙ changed_at_same _ m _,
      )

  -- message m was sent in the list to the desk, with payload p
  record SentToDesk (m p : ℕ) : Type 0 where
    sent : SentIn t g n k l m
    to_desk_lem : sent.receiver ≡ desk
    payload_is : sent.payload ≡ p

  -- if a call lets it out, it may be cited
  let_out_citable : (before after : List Call) (x : Call) (m mask p : ℕ) → l ≡ before ++ x ∷ after → LetsGo x (call_in (up_to t g n k before) x).answer m mask →
      SentToDesk m p → Citable t g n k l m p
  let_out_citable before after x m mask p e goes d =
      let c = in_list (follows n) t g k l O before x after e in
      let out = (follows n).lets_out c.holds x m mask goes in
      let whole = ap (λ z. end t g n k z) e in
      let receiver = ap (λ (h : History). h.receiver m) whole ∙ c.all.keeps.receiver_same m out.sent in
      let sending = ap (λ (h : History). h.sending m) whole ∙ c.all.keeps.sending_same m out.sent in
      let (to, from) = sent_as m d.sent in
      let (zero, live, kept) = (demand_3 t g n k l O).published before after x m mask e goes (sym receiver ∙ to ∙ d.to_desk_lem) in
      record {
        sent = d.sent;
        to_desk_lem = d.to_desk_lem;
        payload_is = d.payload_is;
        let_out_lem = record { before = before; call = x; after = after; is_in = e; lets_go = subst (LetsGo x (call_in (up_to t g n k before) x).answer m) zero goes };
        sent_from_lem = from;
        live = subst (λ (y : Interval). member y (h.chain y.owner) ≡ true) (sym sending) live;
        not_lost = subst (λ (y : Interval). (crash : ℕ) → h.lost y crash ≡ false) (sym sending) kept;
      }

  -- each of some citations may be cited
  abbrev Each : List Citation → Type 0
  Each cs = (j : ℕ) → j < length cs → let c = citation_at cs j in Citable t g n k l c.message c.payload

  -- what the citations tell along the list: what was sent to the desk, and what may be cited
  record Tells (q : Citations) : Type 0 where
    sends : (m : ℕ) → q.receiver m ≡ desk → SentToDesk m (q.payload m)
    entries : Each q.published

  -- in a house just opened
  tells_none : Tells no_citations
  tells_none = record { sends = λ m e. absurd (omega arith); entries = λ j below. absurd (omega arith) }

  -- after a send
  tells_sent : (q : Citations) (m : ℕ) (s : SentIn t g n k l m) → Tells q → Tells (sent_with q m s.receiver s.payload)
  unfolding sent_with changed_at
  tells_sent q m s w = record { sends = λ i. at i (i == m) refl; entries = w.entries }
    where
      at : (i : ℕ) (b : Bool) → (i == m) ≡ b → cond b s.receiver (q.receiver i) ≡ desk → SentToDesk i (cond b s.payload (q.payload i))
      at i true e d = subst (λ i. SentToDesk i s.payload) (sym (eqb-true i m e)) (record { sent = s; to_desk_lem = d; payload_is = refl })
      at i false e d = w.sends i d

  -- after a release that lets its message out, by itself or in a set
  tells_out : (q : Citations) (before after : List Call) (x : Call) (m mask : ℕ) → l ≡ before ++ x ∷ after → LetsGo x (call_in (up_to t g n k before) x).answer m mask →
      Tells q → Tells (let_out_to q m)
  unfolding let_out_to
  tells_out q before after x m mask e goes w =
      record {
        sends = w.sends;
        entries =
            cond_ind (λ more. Each (q.published ++ more)) (q.receiver m == desk)
            (λ d. each_more (λ c. Citable t g n k l c.message c.payload) q.published _ w.entries
            (let_out_citable before after x m mask _ e goes (w.sends m (eqb-true (q.receiver m) desk d))))
            (λ _. subst Each (sym (append-nil q.published)) w.entries);
      }

  -- after each step of a call
  tells_next : (before : List Call) (x : Call) (after : List Call) → l ≡ before ++ x ∷ after → (q : Run) (y : Command) → AtStep (follows n) t g k before x q y →
      Tells q.citations → Tells (next (asks y) q).citations
  unfolding next step_call cited
  tells_next before x after e q y c w =
      cited_ind Tells q.citations (outcome y c.holds.reads) c.unopened w
      (λ s to p m ye ae. let (call_is, here) = part_itself c.part (λ m no. absurd (let z : ◌≡◌ {A = ℕ} 0 1 = cc in omega arith)) (λ m no. absurd (let z : ◌≡◌ {A = ℕ} 0 1 = cc in omega arith)) in
      let is = subst (λ x. l ≡ before ++ x ∷ after) (call_is ∙ ap asks ye) e in
      let answer = subst (λ r. (step_in r (Send s to p)).answer ≡ Sent m) here (subst (λ y. (step_in q y).answer ≡ Sent m) ye ae) in
      tells_sent q.citations m (record { before = before; after = after; sender = s; receiver = to; payload = p; is_in = is; answer = answer }) w)
      (λ m own ye ae. let (mask, goes, _) = part_out m m own c.part ye ae in
      tells_out q.citations before after x m mask e goes w)

  -- so at the end
  tells : Tells (up_to t g n k l).citations
  unfolding just_opened
  tells = along (follows n) t g k l O (λ r. Tells r.citations) (λ q c lent low w. w) tells_none tells_next l [] (sym (append-nil l))

  -- The ledger has just these entries.
  pub all_citable : AllCitable t g n k l
  all_citable j below =
      let c = run_cites t g n k l O in
      let cs = (up_to t g n k l).citations.published in
      let inside : j < length cs = omega (arith, ap count_of c.ledger_is, count_ledger cs) in
      let message = ap (λ u. cited_message u j) c.ledger_is ∙ message_cited cs j c.few inside in
      let payload = ap (λ u. cited_payload u j) c.ledger_is ∙ payload_cited cs j c.few inside in
      rw (message, payload) (tells.entries j inside)
