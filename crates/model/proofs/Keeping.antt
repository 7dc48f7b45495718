-- What every accepted step keeps, and how it comes about where one controller changes and the others stay.
use Rattle.std.specs.Prelude.{◌≡◌, refl, ◌≢◌, ℕ, ◌≤◌, ◌<◌}
use Rattle.std.proofs.Common.{sym, ◌∙◌, ap, arith}
use Rattle.history.specs.History.{Interval, History, changed_at}
use Rattle.model.specs.Model.{Controller, Model, changed_at₂, put_controller}
use Rattle.model.specs.Tests.{Is}
use Rattle.model.proofs.Tests.{eq?, changed_at_ind, changed_at_same, changed_at_other, changed_at_id, changed_at_twice, changed_at₂_ind, changed_at₂_other}
use Rattle.model.proofs.Invariant.{Spoilt, InOrder, ControllerOk, Settled, Flags, EndsAgree, Inv, Ext, Frame, ext_refl, ext_trans, message_on, controller_on, settled_on}

-- model μ with history h becomes μ' with h'
pub record Keeps (n : ℕ) (μ : Model) (h : History) (μ' : Model) (h' : History) : Type 0 where
  pub inv : Inv n μ' h'
  pub ext : Ext h h'
  pub sent_grows : μ.sent ≤ μ'.sent
  pub sending_same : (m : ℕ) → m ≤ μ.sent → h'.sending m ≡ h.sending m
  pub receiver_same : (m : ℕ) → m ≤ μ.sent → h'.receiver m ≡ h.receiver m
  pub from_same : (m : ℕ) → m ≤ μ.sent → (μ'.message m).from ≡ (μ.message m).from
  pub to_same : (m : ℕ) → m ≤ μ.sent → (μ'.message m).to ≡ (μ.message m).to

-- a step that changes nothing that is looked at here: held, waits, dropped, refused
pub keeps_refl : {n : ℕ} {μ : Model} {h : History} → Inv n μ h → Keeps n μ h μ h
keeps_refl {h = h} v =
    record {
      inv = v;
      ext = ext_refl h;
      sent_grows = omega arith;
      sending_same = λ m l. refl;
      receiver_same = λ m l. refl;
      from_same = λ m l. refl;
      to_same = λ m l. refl;
    }

-- two steps, one after the other
pub keeps_trans : {n : ℕ} {μ μ' μ'' : Model} {h h' h'' : History} → Keeps n μ h μ' h' → Keeps n μ' h' μ'' h'' → Keeps n μ h μ'' h''
keeps_trans p q =
    let g = p.sent_grows in
    record {
      inv = q.inv;
      ext = ext_trans p.ext q.ext;
      sent_grows = omega (arith, q.sent_grows);
      sending_same = λ m l. q.sending_same m (omega arith) ∙ p.sending_same m l;
      receiver_same = λ m l. q.receiver_same m (omega arith) ∙ p.receiver_same m l;
      from_same = λ m l. q.from_same m (omega arith) ∙ p.from_same m l;
      to_same = λ m l. q.to_same m (omega arith) ∙ p.to_same m l;
    }

-- k is put for controller c, and history h becomes h'
pub record Puts (n : ℕ) (μ : Model) (h h' : History) (c : ℕ) (k : Controller) : Type 0 where
  pub order : InOrder n h'
  pub ext : Ext h h'
  pub frame : (b : ℕ) → b ≢ c → Frame h h' b
  pub back : (b : ℕ) → b ≢ c → b < n → (y : Interval) → Is (h.begun y) → Spoilt h' b y → Spoilt h b y
  pub ok : ControllerOk h' c k
  pub settled : Settled h' c k
  pub agree : EndsAgree (changed_at μ.controller c k)
  pub sending_is : h'.sending ≡ h.sending
  pub receiver_is : h'.receiver ≡ h.receiver
  pub flags : Flags h' c k
  pub gap_is : h'.gap ≡ h.gap

-- then all is kept: the other controllers and the messages are carried over
pub put_keeps : {n : ℕ} {μ : Model} {h h' : History} {c : ℕ} {k : Controller} → Inv n μ h → Puts n μ h h' c k → Keeps n μ h (put_controller μ c k) h'
unfolding put_controller
put_keeps {n} {μ} {h} {h'} {c} {k} v p =
    record {
      inv =
          record {
            history = p.order;
            controller_ok_lem = changed_at_ind (λ b k. b < n → ControllerOk h' b k) μ.controller c k (λ l. p.ok) (λ b ne l. controller_on p.ext (p.frame b ne) (v.controller_ok_lem b l));
            settled =
                changed_at_ind (λ b k. b < n → Settled h' b k) μ.controller c k (λ l. p.settled)
                (λ b ne l. settled_on p.ext (v.controller_ok_lem b l) (p.back b ne l) (v.settled b l));
            message_ok_lem = λ m a l. message_on p.ext (sending m) (receiver m) (v.message_ok_lem m a l);
            agree = p.agree;
            flags =
                changed_at_ind (λ b k. b < n → Flags h' b k) μ.controller c k (λ l. p.flags)
                (λ b ne l x q r. (p.frame b ne).flagged_same _ x ∙ v.flags b l x q r);
            gap_is = p.gap_is ∙ v.gap_is;
          };
      ext = p.ext;
      sent_grows = omega arith;
      sending_same = λ m l. sending m;
      receiver_same = λ m l. receiver m;
      from_same = λ m l. refl;
      to_same = λ m l. refl;
    }
  where
    sending : (m : ℕ) → h'.sending m ≡ h.sending m
    sending m = ap (λ f. f m) p.sending_is

    receiver : (m : ℕ) → h'.receiver m ≡ h.receiver m
    receiver m = ap (λ f. f m) p.receiver_is

-- a controller put where it stands
pub put_controller_id : (μ : Model) (c : ℕ) → put_controller μ c (μ.controller c) ≡ μ
unfolding put_controller
put_controller_id μ c = λ d. record { controller = changed_at_id μ.controller c d; sent = μ.sent; message = μ.message; gap = μ.gap }

-- a controller put, and changed then
pub put_controller_twice : (μ : Model) (c : ℕ) (k : Controller) (f : Controller → Controller) →
    put_controller (put_controller μ c k) c (f ((put_controller μ c k).controller c)) ≡ put_controller μ c (f k)
unfolding put_controller
put_controller_twice μ c k f =
    rw (changed_at_same μ.controller c k)
    (λ d. record { controller = changed_at_twice μ.controller c k (f k) d; sent = μ.sent; message = μ.message; gap = μ.gap })

-- The end words of all controllers agree again after a step that leaves controller c as k.
module _ (controller : ℕ → Controller) (c : ℕ) (k : Controller) (ag : EndsAgree controller) where
  -- the end words stay
  pub agree_same : k.ends ≡ (controller c).ends → EndsAgree (changed_at controller c k)
  agree_same e b d i = rw (row b, row d) (ag b d i)
    where
      row : (b : ℕ) → (changed_at controller c k b).ends ≡ (controller b).ends
      row = changed_at_ind (λ b k. k.ends ≡ (controller b).ends) controller c k e (λ b ne. refl)

  -- c copies the end word of another's crash
  pub agree_heard : (a i : ℕ) → k.ends ≡ changed_at₂ (controller c).ends a i ((controller a).ends a i) → c ≢ a → EndsAgree (changed_at controller c k)
  agree_heard a i is ne =
      λ b d s.
      rw (own d s) (changed_at_ind (λ b k. 1 ≤ k.ends d s → k.ends d s ≡ (controller d).ends d s) controller c k
      (rw is (changed_at₂_ind (λ d s w. 1 ≤ w → w ≡ (controller d).ends d s) (controller c).ends a i ((controller a).ends a i) (λ l. refl) (λ d s other l. ag c d s l) d s))
      (λ b other. ag b d s) b)
    where
      own : (d s : ℕ) → (changed_at controller c k d).ends d s ≡ (controller d).ends d s
      own d s = changed_at_ind (λ d k. k.ends d s ≡ (controller d).ends d s) controller c k (rw is (changed_at₂_other (controller c).ends a i _ c s (λ p q. ne p))) (λ d other. refl) d

  -- c writes the end word of its own crash, of which nobody has heard
  pub agree_crashed : (i e : ℕ) → k.ends ≡ changed_at₂ (controller c).ends c i e → (controller c).ends c i ≡ 0 → EndsAgree (changed_at controller c k)
  agree_crashed i e is zero b d s =
      eq? d c
      (λ dc. rw dc (eq? b c (λ bc. rw bc (λ l. refl)) (λ nb. rw (other b nb, mine) (λ l. let q = ag b c s l in
      let ns : s ≢ i = λ st. let w : (controller c).ends c s ≡ 0 = rw st zero in omega arith in
      q ∙ sym (changed_at₂_other (controller c).ends c i e c s (λ p r. ns r))))))
      (λ nd. rw (other d nd) (eq? b c (λ bc. rw (bc, mine, changed_at₂_other (controller c).ends c i e d s (λ p r. nd p)) (ag c d s)) (λ nb. rw (other b nb) (ag b d s))))
    where
      mine : (changed_at controller c k c).ends ≡ changed_at₂ (controller c).ends c i e
      mine = ap (λ q. q.ends) (changed_at_same controller c k) ∙ is

      other : (b : ℕ) → b ≢ c → changed_at controller c k b ≡ controller b
      other b ne = changed_at_other controller c b k ne
