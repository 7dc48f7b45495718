-- What holds between the model of a house and its history after every accepted step, in parts that name only the components
-- they speak of; and what every step leaves of a history.
use Rattle.std.specs.Prelude.{◌≡◌, refl, Bool, ◌⊎◌, ℕ, ◌≤◌, ◌<◌}
use Rattle.std.proofs.Common.{sym, ◌∙◌, ap, subst, inl, inr, ⊎_elim, arith}
use Rattle.history.specs.History.{Interval, interval, History, newest}
use Rattle.history.specs.Demand.{RestsOnLost}
use Rattle.model.specs.Model.{Pair, interval_of, Vec, Controller, Message, Model, full}
use Rattle.model.specs.Tests.{Is}
use Rattle.model.proofs.Tests.{interval_path}
use Rattle.model.proofs.Chain.{chain_of, OnChain, newest_chain}

-- interval y rests on one lost in a crash that b has heard
abbrev pub Spoilt : History → ℕ → Interval → Type 0
Spoilt h b y = RestsOnLost h h b y

-- a pair covers interval j: it has its incarnation, and at least its number
pub record Covers (p : Pair) (j : Interval) : Type 0 where
  pub same : p.incarnation ≡ j.incarnation
  pub upto : j.number ≤ p.number

-- Vector v tracks interval y. A full pair is an interval that y rests on; and what y rests on is stable, or covered. (It
-- need not be known stable to the holder of v: senders filter by what they know.)
pub record Tracks (h : History) (v : Vec) (y : Interval) : Type 0 where
  pub sound : (a : ℕ) → Is (full (v a)) → Is (h.rests y (interval_of a (v a)))
  pub cover : (j : Interval) → Is (h.rests y j) → Is (h.stable j) ⊎ Covers (v j.owner) j

-- the history by itself
pub record Orderly (n : ℕ) (begun : Interval → Bool) (rests : Interval → Interval → Bool) (stable : Interval → Bool) (lost : Interval → ℕ → Bool) :
    Type 0 where
  pub owner_below : (y : Interval) → Is (begun y) → y.owner < n
  pub number_pos : (y : Interval) → Is (begun y) → 1 ≤ y.number
  pub rests_self : (y : Interval) → Is (begun y) → Is (rests y y)
  pub rests_begun : (y j : Interval) → Is (begun y) → Is (rests y j) → Is (begun j)
  pub rests_trans : (y j k : Interval) → Is (begun y) → Is (rests y j) → Is (rests j k) → Is (rests y k)
  pub stable_begun : (y : Interval) → Is (stable y) → Is (begun y)
  pub lost_begun : (y : Interval) (i : ℕ) → Is (lost y i) → Is (begun y)
  pub stable_not_lost : (y : Interval) (i : ℕ) → Is (stable y) → Is (lost y i) → ⊥

-- the same of a whole history
abbrev pub InOrder : ℕ → History → Type 0
InOrder n h = Orderly n h.begun h.rests h.stable h.lost

-- controller c: its degree, incarnation and chain, and its counts; from the newest stable interval on all are of the
-- current incarnation
pub record Shape (h : History) (c incarnation degree live stable : ℕ) (begun_in : ℕ → ℕ) : Type 0 where
  pub incarnation_is : h.incarnation c ≡ incarnation
  pub degree_is : h.degree c ≡ degree
  pub chain_is : h.chain c ≡ chain_of c begun_in live
  pub stable_pos : 1 ≤ stable
  pub stable_le : stable ≤ live
  pub current_from : (x : ℕ) → stable ≤ x → x ≤ live → begun_in x ≡ incarnation

-- so it has a live interval
pub some_live : {h : History} {c incarnation degree live stable : ℕ} {begun_in : ℕ → ℕ} → Shape h c incarnation degree live stable begun_in → 1 ≤ live
some_live s = omega (arith, s.stable_pos, s.stable_le)

-- and its newest one has the highest number
pub newest_is : {h : History} {c incarnation degree live stable : ℕ} {begun_in : ℕ → ℕ} → Shape h c incarnation degree live stable begun_in →
    newest (h.chain c) ≡ interval c (begun_in live) live
newest_is {c = c} {live = live} {begun_in = begun_in} s = ap newest s.chain_is ∙ newest_chain c begun_in live (some_live s)

-- the intervals of controller c: a begun one of the current incarnation is live, a live one rests on just the live ones
-- up to it among the live ones, the first rests on itself alone, and each has a vector that tracks it
pub record Body (h : History) (c incarnation live stable : ℕ) (begun_in : ℕ → ℕ) (vec : ℕ → Vec) : Type 0 where
  pub live_begun : (x : ℕ) → 1 ≤ x → x ≤ live → Is (h.begun (interval c (begun_in x) x))
  pub stable_upto : (x : ℕ) → 1 ≤ x → x ≤ stable → Is (h.stable (interval c (begun_in x) x))
  pub stable_only : (x : ℕ) → 1 ≤ x → x ≤ live → Is (h.stable (interval c (begun_in x) x)) → x ≤ stable
  pub begun_le : (i x : ℕ) → Is (h.begun (interval c i x)) → i ≤ incarnation
  pub current_live : (x : ℕ) → Is (h.begun (interval c incarnation x)) → (x ≤ live) × (begun_in x ≡ incarnation)
  pub rests_below : (x x' : ℕ) → 1 ≤ x → x ≤ x' → x' ≤ live → Is (h.rests (interval c (begun_in x') x') (interval c (begun_in x) x))
  pub rests_order : (x x' : ℕ) → 1 ≤ x → x ≤ live → 1 ≤ x' → x' ≤ live → Is (h.rests (interval c (begun_in x') x') (interval c (begun_in x) x)) → x ≤ x'
  pub first_alone : (j : Interval) → Is (h.rests (interval c (begun_in 1) 1) j) → j ≡ interval c (begun_in 1) 1
  pub tracked : (x : ℕ) → 1 ≤ x → x ≤ live → Tracks h (vec x) (interval c (begun_in x) x)

-- known words: each names a begun interval, and what is begun up to it is stable
pub record Knows (h : History) (known : ℕ → ℕ → ℕ) : Type 0 where
  pub known_begun : (a i : ℕ) → 1 ≤ known a i → Is (h.begun (interval a i (known a i)))
  pub known_stable_lem : (a i x : ℕ) → Is (h.begun (interval a i x)) → x ≤ known a i → Is (h.stable (interval a i x))

-- end words of controller c: not 0 for just the crashes that c has heard; its own ones part what is lost from what is
-- stable; and an interval of c that is begun is live or spoilt
pub record Ends (h : History) (c incarnation live : ℕ) (begun_in : ℕ → ℕ) (ends : ℕ → ℕ → ℕ) : Type 0 where
  pub heard_end : (a i : ℕ) → Is (h.heard c a i) → 1 ≤ ends a i
  pub end_heard : (a i : ℕ) → 1 ≤ ends a i → Is (h.heard c a i)
  pub lost_above : (i x u : ℕ) → Is (h.lost (interval c i x) u) → (u ≡ i) × Is (h.begun (interval c i x)) × (1 ≤ ends c i) × (ends c i < x)
  pub above_lost : (i x : ℕ) → Is (h.begun (interval c i x)) → 1 ≤ ends c i → ends c i < x → Is (h.lost (interval c i x) i)
  pub end_le : (i : ℕ) → 1 ≤ ends c i → i ≤ incarnation
  pub end_begun : (i : ℕ) → 1 ≤ ends c i → Is (h.begun (interval c i (ends c i)))
  pub end_stable : (i x : ℕ) → Is (h.begun (interval c i x)) → 1 ≤ ends c i → x ≤ ends c i → Is (h.stable (interval c i x))
  pub live_or_spoilt : (i x : ℕ) → Is (h.begun (interval c i x)) → ((x ≤ live) × (begun_in x ≡ i)) ⊎ Spoilt h c (interval c i x)

pub record ControllerOk (h : History) (c : ℕ) (k : Controller) : Type 0 where
  pub shape : Shape h c k.incarnation k.degree k.live k.stable k.begun_in
  pub body : Body h c k.incarnation k.live k.stable k.begun_in k.vec
  pub knows : Knows h k.known
  pub ended : Ends h c k.incarnation k.live k.begun_in k.ends

-- what holds of controller c between steps, but not in the middle of a crash or a hearing
pub record Settled (h : History) (c : ℕ) (k : Controller) : Type 0 where
  pub not_ended : k.ends c k.incarnation ≡ 0
  pub live_clean : (x : ℕ) → 1 ≤ x → x ≤ k.live → Spoilt h c (interval c (k.begun_in x) x) → ⊥

pub record MessageOk (h : History) (m : ℕ) (g : Message) : Type 0 where
  pub sending_is : h.sending m ≡ g.from
  pub receiver_is : h.receiver m ≡ g.to
  pub from_begun : Is (h.begun g.from)
  pub tracked : Tracks h g.vec g.from

-- W4: what the history says is flagged of the live intervals of c, the controller does
abbrev pub Flags : History → ℕ → Controller → Type 0
Flags h c k = (x : ℕ) → 1 ≤ x → x ≤ k.live → h.flagged (interval c (k.begun_in x) x) ≡ k.flagged x

-- an end word is its owner's
abbrev pub EndsAgree : (ℕ → Controller) → Type 0
EndsAgree controller = (b a i : ℕ) → 1 ≤ (controller b).ends a i → (controller b).ends a i ≡ (controller a).ends a i

pub record Inv (n : ℕ) (μ : Model) (h : History) : Type 0 where
  pub history : InOrder n h
  pub controller_ok_lem : (c : ℕ) → c < n → ControllerOk h c (μ.controller c)
  pub settled : (c : ℕ) → c < n → Settled h c (μ.controller c)
  pub message_ok_lem : (m : ℕ) → 1 ≤ m → m ≤ μ.sent → MessageOk h m (μ.message m)
  pub agree : EndsAgree μ.controller
  pub flags : (c : ℕ) → c < n → Flags h c (μ.controller c)
  pub gap_is : h.gap ≡ μ.gap

-- h' is later than h: what an interval rests on never changes, nothing begun, stable, lost or heard is taken back, nothing
-- more is lost in a crash that was heard, and a new interval has the highest number of its incarnation
pub record Ext (h h' : History) : Type 0 where
  pub begun_stays : (y : Interval) → Is (h.begun y) → Is (h'.begun y)
  pub rests_same : (y j : Interval) → Is (h.begun y) → h'.rests y j ≡ h.rests y j
  pub stable_stays : (y : Interval) → Is (h.stable y) → Is (h'.stable y)
  pub lost_stays : (y : Interval) (i : ℕ) → Is (h.lost y i) → Is (h'.lost y i)
  pub heard_stays : (b a i : ℕ) → Is (h.heard b a i) → Is (h'.heard b a i)
  pub lost_before : (y : Interval) (i : ℕ) → Is (h.heard y.owner y.owner i) → Is (h'.lost y i) → Is (h.lost y i)
  pub new_above : (y : Interval) → Is (h'.begun y) →
      Is (h.begun y) ⊎ ((1 ≤ y.number) × ((x' : ℕ) → Is (h.begun (interval y.owner y.incarnation x')) → x' < y.number))

-- h' says no more of controller c than h
pub record Frame (h h' : History) (c : ℕ) : Type 0 where
  pub incarnation_same : h'.incarnation c ≡ h.incarnation c
  pub degree_same : h'.degree c ≡ h.degree c
  pub chain_same : h'.chain c ≡ h.chain c
  pub begun_same : (i x : ℕ) → Is (h'.begun (interval c i x)) → Is (h.begun (interval c i x))
  pub stable_same : (i x : ℕ) → Is (h.begun (interval c i x)) → Is (h'.stable (interval c i x)) → Is (h.stable (interval c i x))
  pub lost_same : (i x u : ℕ) → Is (h'.lost (interval c i x) u) → Is (h.lost (interval c i x) u)
  pub heard_same : (a i : ℕ) → Is (h'.heard c a i) → Is (h.heard c a i)
  pub flagged_same : (i x : ℕ) → h'.flagged (interval c i x) ≡ h.flagged (interval c i x)

-- a history is later than itself
pub ext_refl : (h : History) → Ext h h
ext_refl h =
    record {
      begun_stays = λ y b. b;
      rests_same = λ y j b. refl;
      stable_stays = λ y b. b;
      lost_stays = λ y i b. b;
      heard_stays = λ b a i e. e;
      lost_before = λ y i e l. l;
      new_above = λ y b. inl b;
    }

-- two steps make a later history
pub ext_trans : {h h' h'' : History} → Ext h h' → Ext h' h'' → Ext h h''
ext_trans {h} {h'} {h''} e f =
    record {
      begun_stays = λ y b. f.begun_stays y (e.begun_stays y b);
      rests_same = λ y j b. f.rests_same y j (e.begun_stays y b) ∙ e.rests_same y j b;
      stable_stays = λ y b. f.stable_stays y (e.stable_stays y b);
      lost_stays = λ y i b. f.lost_stays y i (e.lost_stays y i b);
      heard_stays = λ b a i x. f.heard_stays b a i (e.heard_stays b a i x);
      lost_before = λ y i z l. e.lost_before y i z (f.lost_before y i (e.heard_stays _ _ _ z) l);
      new_above = λ y b. ⊎_elim (e.new_above y) (λ g. inr (g.0, λ x' z. g.1 x' (e.begun_stays _ z))) (f.new_above y b);
    }

-- a history says no more than itself
pub frame_refl : (h : History) (c : ℕ) → Frame h h c
frame_refl h c =
    record {
      incarnation_same = refl;
      degree_same = refl;
      chain_same = refl;
      begun_same = λ i x b. b;
      stable_same = λ i x b s. s;
      lost_same = λ i x u l. l;
      heard_same = λ a i e. e;
      flagged_same = λ i x. refl;
    }

-- two steps that say no more of c
pub frame_trans : {h h' h'' : History} {c : ℕ} → Ext h h' → Frame h h' c → Frame h' h'' c → Frame h h'' c
frame_trans x e f =
    record {
      incarnation_same = f.incarnation_same ∙ e.incarnation_same;
      degree_same = f.degree_same ∙ e.degree_same;
      chain_same = f.chain_same ∙ e.chain_same;
      begun_same = λ i x' b. e.begun_same i x' (f.begun_same i x' b);
      stable_same = λ i x' b s. e.stable_same i x' b (f.stable_same i x' (x.begun_stays _ b) s);
      lost_same = λ i x' u l. e.lost_same i x' u (f.lost_same i x' u l);
      heard_same = λ a i l. e.heard_same a i (f.heard_same a i l);
      flagged_same = λ i x'. f.flagged_same i x' ∙ e.flagged_same i x';
    }

-- h' differs from h in nothing that is said of intervals, but for what is flagged, and of crashes heard
pub record SameFacts (h h' : History) : Type 0 where
  pub begun_is : h'.begun ≡ h.begun
  pub rests_is : h'.rests ≡ h.rests
  pub stable_is : h'.stable ≡ h.stable
  pub lost_is : h'.lost ≡ h.lost
  pub heard_is : h'.heard ≡ h.heard

-- such a history is later
pub ext_same : {h h' : History} → SameFacts h h' → Ext h h'
ext_same e =
    record {
      begun_stays = λ y b. rw e.begun_is b;
      rests_same = λ y j b. ap (λ f. f y j) e.rests_is;
      stable_stays = λ y b. rw e.stable_is b;
      lost_stays = λ y i b. rw e.lost_is b;
      heard_stays = λ b a i z. rw e.heard_is z;
      lost_before = λ y i z l. rw e.lost_is at l;
      new_above = λ y b. inl (rw e.begun_is at b);
    }

-- and says no more of c where c keeps its degree, incarnation, chain and flags
pub frame_same : {h h' : History} (c : ℕ) → SameFacts h h' → h'.incarnation c ≡ h.incarnation c → h'.degree c ≡ h.degree c →
    h'.chain c ≡ h.chain c → ((i x : ℕ) → h'.flagged (interval c i x) ≡ h.flagged (interval c i x)) → Frame h h' c
frame_same c e p q r f =
    record {
      incarnation_same = p;
      degree_same = q;
      chain_same = r;
      begun_same = λ i x b. rw e.begun_is at b;
      stable_same = λ i x b s. rw e.stable_is at s;
      lost_same = λ i x u l. rw e.lost_is at l;
      heard_same = λ a i z. rw e.heard_is at z;
      flagged_same = f;
    }

-- the same crash spoils another interval, for another controller, in another history
pub spoilt_by : {h h' : History} {b b' : ℕ} {y y' : Interval} (l : Spoilt h b y) → Is (h'.rests y' l.on) → Is (h'.lost l.on l.crash) →
    Is (h'.heard b' l.on.owner l.crash) → Spoilt h' b' y'
spoilt_by l r g e = record { on = l.on; crash = l.crash; rests = r; lost = g; heard = e }

-- and spoils no more
pub spoilt_same : {h h' : History} {b : ℕ} {y : Interval} → SameFacts h h' → Spoilt h' b y → Spoilt h b y
spoilt_same e l = spoilt_by l (rw e.rests_is at l.rests) (rw e.lost_is at l.lost) (rw e.heard_is at l.heard)

-- what rests on a spoilt interval is spoilt
pub spoilt_up : {n : ℕ} {h : History} {b : ℕ} {y j : Interval} → InOrder n h → Is (h.begun y) → Is (h.rests y j) → Spoilt h b j → Spoilt h b y
spoilt_up {y = y} {j = j} o b r l = spoilt_by l (o.rests_trans y j _ b r l.rests) l.lost l.heard

-- a begun interval of c is live or spoilt, by its name
pub live_or_spoilt : {n : ℕ} {h : History} {c : ℕ} {k : Controller} → InOrder n h → ControllerOk h c k → (j : Interval) → j.owner ≡ c → Is (h.begun j) →
    OnChain c k.begun_in k.live j ⊎ Spoilt h c j
live_or_spoilt {h = h} {c = c} {k = k} o ok j e b =
    let mine : j ≡ interval c j.incarnation j.number = interval_path e refl refl in
    ⊎_elim
    (λ u. inl (record { pos = o.number_pos j b; top = u.0; is = mine ∙ ap (λ i. interval c i j.number) (sym u.1) }))
    (λ r. inr (subst (λ q. Spoilt h c q) (sym mine) r))
    (ok.ended.live_or_spoilt j.incarnation j.number (subst (λ q. Is (h.begun q)) mine b))

-- The parts in a later history.
module _ {h h' : History} (e : Ext h h') where
  -- what a begun interval rests on, read back
  pub rests_back : (y j : Interval) → Is (h.begun y) → Is (h'.rests y j) → Is (h.rests y j)
  rests_back y j b r = sym (e.rests_same y j b) ∙ r

  -- and read on
  pub rests_on_lem : (y j : Interval) → Is (h.begun y) → Is (h.rests y j) → Is (h'.rests y j)
  rests_on_lem y j b r = e.rests_same y j b ∙ r

  -- a spoilt interval stays so
  pub spoilt_on : {b : ℕ} {y : Interval} → Is (h.begun y) → Spoilt h b y → Spoilt h' b y
  spoilt_on {b} {y} g r = spoilt_by r (rests_on_lem y r.on g r.rests) (e.lost_stays _ _ r.lost) (e.heard_stays _ _ _ r.heard)

  -- a vector still tracks its interval: what was stable is stable
  pub tracks_on : (v : Vec) (y : Interval) → Is (h.begun y) → Tracks h v y → Tracks h' v y
  tracks_on v y b o =
      record {
        sound = λ a f. rests_on_lem _ _ b (o.sound a f);
        cover = λ j r. ⊎_elim (λ s. inl (e.stable_stays j s)) (λ s. inr s) (o.cover j (rests_back y j b r));
      }

  -- a message that keeps receiver and sending interval
  pub message_on : {m : ℕ} {g : Message} → h'.sending m ≡ h.sending m → h'.receiver m ≡ h.receiver m → MessageOk h m g → MessageOk h' m g
  message_on {g = g} p q o =
      record {
        sending_is = p ∙ o.sending_is;
        receiver_is = q ∙ o.receiver_is;
        from_begun = e.begun_stays _ o.from_begun;
        tracked = tracks_on g.vec _ o.from_begun o.tracked;
      }

  -- known words: a new interval has a number above the known one of its incarnation, so it is not claimed to be stable
  pub knows_on : {known : ℕ → ℕ → ℕ} → Knows h known → Knows h' known
  knows_on {known} o =
      record {
        known_begun = λ a i l. e.begun_stays _ (o.known_begun a i l);
        known_stable_lem = λ a i x b l. go a i x l (e.new_above _ b);
      }
    where
      go : (a i x : ℕ) → x ≤ known a i → Is (h.begun (interval a i x)) ⊎ ((1 ≤ x) × ((x' : ℕ) → Is (h.begun (interval a i x')) → x' < x)) →
          Is (h'.stable (interval a i x))
      go a i x l (inl b) = e.stable_stays _ (o.known_stable_lem a i x b l)
      go a i x l (inr g) = let p = g.0 in let q = g.1 (known a i) (o.known_begun a i (omega arith)) in absurd (omega arith)

  -- the intervals of c, where the later history begins none of them and makes none of them stable
  pub body_on : {c incarnation live stable : ℕ} {begun_in : ℕ → ℕ} {vec : ℕ → Vec} → 1 ≤ live →
      ((i x : ℕ) → Is (h'.begun (interval c i x)) → Is (h.begun (interval c i x))) →
      ((i x : ℕ) → Is (h.begun (interval c i x)) → Is (h'.stable (interval c i x)) → Is (h.stable (interval c i x))) →
      Body h c incarnation live stable begun_in vec → Body h' c incarnation live stable begun_in vec
  body_on l b_f s_f b =
      record {
        live_begun = λ x p q. e.begun_stays _ (b.live_begun x p q);
        stable_upto = λ x p q. e.stable_stays _ (b.stable_upto x p q);
        stable_only = λ x p q z. b.stable_only x p q (s_f _ _ (b.live_begun x p q) z);
        begun_le = λ i x z. b.begun_le i x (b_f i x z);
        current_live = λ x z. b.current_live x (b_f _ x z);
        rests_below = λ x x' p q r. rests_on_lem _ _ (b.live_begun x' (omega arith) r) (b.rests_below x x' p q r);
        rests_order = λ x x' p q r s z. b.rests_order x x' p q r s (rests_back _ _ (b.live_begun x' r s) z);
        first_alone = λ j r. b.first_alone j (rests_back _ _ (b.live_begun 1 (omega arith) (omega arith)) r);
        tracked = λ x p q. tracks_on _ _ (b.live_begun x p q) (b.tracked x p q);
      }

  -- the degree, incarnation and chain of c stay
  pub shape_on : {c incarnation degree live stable : ℕ} {begun_in : ℕ → ℕ} → h'.incarnation c ≡ h.incarnation c → h'.degree c ≡ h.degree c →
      h'.chain c ≡ h.chain c → Shape h c incarnation degree live stable begun_in → Shape h' c incarnation degree live stable begun_in
  shape_on p q r s =
      record {
        incarnation_is = p ∙ s.incarnation_is;
        degree_is = q ∙ s.degree_is;
        chain_is = r ∙ s.chain_is;
        stable_pos = s.stable_pos;
        stable_le = s.stable_le;
        current_from = s.current_from;
      }

  -- the end words of c, where the later history begins and loses none of its intervals and c hears no more
  pub ends_on : {c incarnation live : ℕ} {begun_in : ℕ → ℕ} {ends : ℕ → ℕ → ℕ} →
      ((i x : ℕ) → Is (h'.begun (interval c i x)) → Is (h.begun (interval c i x))) →
      ((i x u : ℕ) → Is (h'.lost (interval c i x) u) → Is (h.lost (interval c i x) u)) →
      ((a i : ℕ) → Is (h'.heard c a i) → Is (h.heard c a i)) → Ends h c incarnation live begun_in ends → Ends h' c incarnation live begun_in ends
  ends_on b_f l_f h_f d =
      record {
        heard_end = λ a i z. d.heard_end a i (h_f a i z);
        end_heard = λ a i z. e.heard_stays _ _ _ (d.end_heard a i z);
        lost_above = λ i x u z. let (p, q, r, s) = d.lost_above i x u (l_f i x u z) in (p, e.begun_stays _ q, r, s);
        above_lost = λ i x z p q. e.lost_stays _ _ (d.above_lost i x (b_f i x z) p q);
        end_le = d.end_le;
        end_begun = λ i p. e.begun_stays _ (d.end_begun i p);
        end_stable = λ i x z p q. e.stable_stays _ (d.end_stable i x (b_f i x z) p q);
        live_or_spoilt = λ i x z. ⊎_elim (λ u. inl u) (λ r. inr (spoilt_on (b_f i x z) r)) (d.live_or_spoilt i x (b_f i x z));
      }

  -- a controller that the later history says no more of
  pub controller_on : {c : ℕ} {k : Controller} → Frame h h' c → ControllerOk h c k → ControllerOk h' c k
  controller_on f o =
      let s = o.shape in
      record {
        shape = shape_on f.incarnation_same f.degree_same f.chain_same s;
        body = body_on (some_live s) f.begun_same f.stable_same o.body;
        knows = knows_on o.knows;
        ended = ends_on f.begun_same f.lost_same f.heard_same o.ended;
      }

  -- a controller whose intervals are spoilt only if they were
  pub settled_on : {c : ℕ} {k : Controller} → ControllerOk h c k → ((y : Interval) → Is (h.begun y) → Spoilt h' c y → Spoilt h c y) → Settled h c k →
      Settled h' c k
  settled_on ok back o =
      record { not_ended = o.not_ended; live_clean = λ x p q l. o.live_clean x p q (back _ (ok.body.live_begun x p q) l) }
