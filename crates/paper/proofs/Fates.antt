-- The paper's Theorem A.2 in full, of every message sent in a list: a release or a set in the list let it out; or its sending interval is live no more, and
-- its release is refused with 7; or it is held, and goes out once the controllers are cleared and its sender has heard the crashes.
use Rattle.std.specs.Prelude.{◌≡◌, refl, Bool, true, false, List, [], ◌∷◌, ◌++◌, ◌≢◌, ◌⊎◌, ℕ, zero, suc, ◌<◌, length}
use Rattle.std.proofs.Common.{sym, ap, subst, true≢false, inl, inr, ⊎_elim, arith}
use Rattle.rules.specs.Report.{report}
use Rattle.rules.specs.Sets.{nth}
use Rattle.rules.specs.Step.{Call, asks, release_set, dispatch}
use Rattle.rules.specs.declared.Answer.{Answer}
use Rattle.rules.specs.declared.Answer.TheVariants.{Done, Sent, Released, Held, Delivered, Dropped, Waits, Crashed, Heard, Rolled, Refused, SetReleased, SetHeld, Idle}
use Rattle.rules.specs.declared.Command.{Command}
use Rattle.rules.specs.declared.Command.TheVariants.{Open, SetDegree, Send, Release, Deliver, Log, Checkpoint, Tell, Crash, Hear, SetGap}
use Rattle.history.specs.History.{History, member, answers}
use Rattle.history.specs.Demand.{Run, call_in, next, runs, LetsGo, alone, together, FromOpening, end}
use Rattle.history.specs.Progress.{SentIn, SendingLive, NotLetOut}
use Rattle.history.specs.Asked.{Fate, was_let_out, is_discarded, still_held}
use Rattle.model.proofs.Tests.{contrary, eq?}
use Rattle.paper.specs.Discarded.{discarded}
use Rattle.paper.specs.Whenever.{live_goes}

-- whether a message is in a list, and where
among? : (m : ℕ) (l : List ℕ) → ((i : ℕ) × (i < length l) × (nth l i ≡ m)) ⊎ ((i : ℕ) → i < length l → nth l i ≢ m)
among? m [] = inr (λ i h. absurd (omega arith))
among? m (x ∷ l) =
    eq? x m (λ e. inl (0, omega arith, e))
    (λ ne. ⊎_elim (λ p. inl (suc p.0, omega (arith, p.1), p.2)) (λ none. inr (λ i. at i ne none)) (among? m l))
  where
    at : (i : ℕ) → x ≢ m → ((i : ℕ) → i < length l → nth l i ≢ m) → i < length (x ∷ l) → nth (x ∷ l) i ≢ m
    at zero ne none h = ne
    at (suc i) ne none h = none i (omega arith)

-- what an answer shows of a message that was let out
data Shown : Answer → Type 0 where
  by_release : (echoed mask : ℕ) → Shown (Released echoed mask)
  by_set : (mask : ℕ) → Shown (SetReleased mask)
  nothing : (a : Answer) → answers a (Released 0 0) ≡ false → answers a (SetReleased 0) ≡ false → Shown a

shown : (a : Answer) → Shown a
unfolding answers report
shown Done = nothing Done refl refl
shown (Sent m) = nothing (Sent m) refl refl
shown (Released echoed mask) = by_release echoed mask
shown (Held m mask) = nothing (Held m mask) refl refl
shown (Delivered m i x) = nothing (Delivered m i x) refl refl
shown (Dropped m owner i) = nothing (Dropped m owner i) refl refl
shown (Waits m) = nothing (Waits m) refl refl
shown (Crashed c i k lost replayed) = nothing (Crashed c i k lost replayed) refl refl
shown (Heard b) = nothing (Heard b) refl refl
shown (Rolled b k undone replayed owner i) = nothing (Rolled b k undone replayed owner i) refl refl
shown (Refused number) = nothing (Refused number) refl refl
shown (SetReleased mask) = by_set mask
shown (SetHeld mask) = nothing (SetHeld mask) refl refl
shown Idle = nothing Idle refl refl

-- where it shows nothing, none was
nothing_goes : {x : Call} {a : Answer} {m mask : ℕ} → LetsGo x a m mask → answers a (Released 0 0) ≡ false → answers a (SetReleased 0) ≡ false → ⊥
unfolding answers report
nothing_goes (alone m echoed mask) e f = true≢false e
nothing_goes (together l i mask h) e f = true≢false f

-- whether a step is the release of m
releases? : (m : ℕ) (x : Command) → (x ≡ Release m) ⊎ (x ≢ Release m)
releases? m (Open a b) = inr (λ q. absurd (let z : ◌≡◌ {A = ℕ} 0 1 = cc in omega arith))
releases? m (SetDegree a b) = inr (λ q. absurd (let z : ◌≡◌ {A = ℕ} 0 1 = cc in omega arith))
releases? m (Send a b c) = inr (λ q. absurd (let z : ◌≡◌ {A = ℕ} 0 1 = cc in omega arith))
releases? m (Release i) = eq? i m (λ e. inl (ap Release e)) (λ ne. inr (λ q. ne (let z : i ≡ m = cc in z)))
releases? m (Deliver a) = inr (λ q. absurd (let z : ◌≡◌ {A = ℕ} 0 1 = cc in omega arith))
releases? m (Log a b) = inr (λ q. absurd (let z : ◌≡◌ {A = ℕ} 0 1 = cc in omega arith))
releases? m (Checkpoint a) = inr (λ q. absurd (let z : ◌≡◌ {A = ℕ} 0 1 = cc in omega arith))
releases? m (Tell a b) = inr (λ q. absurd (let z : ◌≡◌ {A = ℕ} 0 1 = cc in omega arith))
releases? m (Crash a) = inr (λ q. absurd (let z : ◌≡◌ {A = ℕ} 0 1 = cc in omega arith))
releases? m (Hear a b c) = inr (λ q. absurd (let z : ◌≡◌ {A = ℕ} 0 1 = cc in omega arith))
releases? m (SetGap a) = inr (λ q. absurd (let z : ◌≡◌ {A = ℕ} 0 1 = cc in omega arith))

-- what lets m out is its own release, or a set that it is among
itself : {x : Command} {a : Answer} {m mask : ℕ} → LetsGo (asks x) a m mask → x ≡ Release m
itself (alone m echoed mask) = refl

not_among : {l : List ℕ} {a : Answer} {m mask : ℕ} → ((i : ℕ) → i < length l → nth l i ≢ m) → LetsGo (release_set l) a m mask → ⊥
not_among none (together l i mask h) = none i h refl

-- a release lets nothing out by a set's answer, nor a set by a release's, nor the dispatcher
no_set_alone : {x : Command} {mask m k : ℕ} → LetsGo (asks x) (SetReleased mask) m k → ⊥
no_set_alone o = elim o [ ]

no_one_together : {l : List ℕ} {echoed mask m k : ℕ} → LetsGo (release_set l) (Released echoed mask) m k → ⊥
no_one_together o = elim o [ ]

not_dispatched : {a : Answer} {m k : ℕ} → LetsGo dispatch a m k → ⊥
not_dispatched o = elim o [ ]

-- whether a call with this answer lets m out
lets_go? : (m : ℕ) (x : Call) {a : Answer} → Shown a → ((mask : ℕ) × LetsGo x a m mask) ⊎ ((mask : ℕ) → LetsGo x a m mask → ⊥)
lets_go? m x (nothing a e f) = inr (λ k o. nothing_goes o e f)
lets_go? m (asks x) (by_release echoed mask) =
    ⊎_elim (λ is. inl (mask, subst (λ x. LetsGo (asks x) (Released echoed mask) m mask) (sym is) (alone m echoed mask))) (λ ne. inr (λ k o. ne (itself o))) (releases? m x)
lets_go? m (asks x) (by_set mask) = inr (λ k o. no_set_alone o)
lets_go? m dispatch (by_release echoed mask) = inr (λ k o. not_dispatched o)
lets_go? m dispatch (by_set mask) = inr (λ k o. not_dispatched o)
lets_go? m (release_set l) (by_release echoed mask) = inr (λ k o. no_one_together o)
lets_go? m (release_set l) (by_set mask) =
    ⊎_elim (λ p. inl (mask, subst (λ m. LetsGo (release_set l) (SetReleased mask) m mask) p.2 (together l p.0 mask p.1))) (λ none. inr (λ k o. not_among none o)) (among? m l)

-- a call in a list from run r that let m out
record Out (r : Run) (l : List Call) (m : ℕ) : Type 0 where
  before : List Call
  call : Call
  after : List Call
  mask : ℕ
  is_in : l ≡ before ++ call ∷ after
  lets_go : LetsGo call (call_in (runs r before) call).answer m mask

-- there is none
abbrev NoneOut : Run → List Call → ℕ → Type 0
NoneOut r l m = (before : List Call) (x : Call) (after : List Call) (mask : ℕ) → l ≡ before ++ x ∷ after → LetsGo x (call_in (runs r before) x).answer m mask → ⊥

-- none in the list if neither its first call is one nor one is in the rest
none_more : (r : Run) (x : Call) (l : List Call) (m : ℕ) → ((mask : ℕ) → LetsGo x (call_in r x).answer m mask → ⊥) → NoneOut (next x r) l m → NoneOut r (x ∷ l) m
unfolding runs
none_more r x l m here there [] y after mask e = let same : x ≡ y = cc in subst (λ y. LetsGo y (call_in r y).answer m mask → ⊥) same (here mask)
none_more r x l m here there (z ∷ before) y after mask e =
    let same : x ≡ z = cc in
    let rest : l ≡ before ++ y ∷ after = cc in
    subst (λ z. LetsGo y (call_in (runs (next z r) before) y).answer m mask → ⊥) same (there before y after mask rest)

-- no call is in the empty list
none_empty : (r : Run) (m : ℕ) → NoneOut r [] m
none_empty r m [] y after mask e = absurd (let z : ◌≡◌ {A = ℕ} 0 1 = cc in omega arith)
none_empty r m (z ∷ before) y after mask e = absurd (let z : ◌≡◌ {A = ℕ} 0 1 = cc in omega arith)

-- the one or the other
out? : (m : ℕ) (l : List Call) (r : Run) → Out r l m ⊎ NoneOut r l m
unfolding runs
out? m [] r = inr (none_empty r m)
out? m (x ∷ l) r =
    ⊎_elim
    (λ o. inl (record { before = x ∷ o.before; call = o.call; after = o.after; mask = o.mask; is_in = ap (λ z. x ∷ z) o.is_in; lets_go = o.lets_go }))
    (λ none. ⊎_elim
    (λ o. inl (record { before = []; call = x; after = l; mask = o.0; is_in = refl; lets_go = o.1 }))
    (λ no. inr (none_more r x l m no none))
    (lets_go? m x (shown (call_in r x).answer)))
    (out? m l (next x r))

module _ (t g : List ℕ) (n k : ℕ) (l : List Call) (O : FromOpening t g n k l) (m : ℕ) where
  abbrev h : History
  h = end t g n k l

  -- every message sent in a list has one
  pub fate : SentIn t g n k l m → Fate t g n k l m
  fate sent =
      ⊎_elim
      (λ o. was_let_out o.mask (record { before = o.before; call = o.call; after = o.after; is_in = o.is_in; lets_go = o.lets_go }))
      (λ none. let y = h.sending m in
      decided (λ mask o. none o.before o.call o.after mask o.is_in o.lets_go) (member y (h.chain y.owner)) refl)
      (out? m l _)
    where
      decided : NotLetOut t g n k l m → (b : Bool) → member (h.sending m) (h.chain (h.sending m).owner) ≡ b → Fate t g n k l m
      decided none true e = still_held none e (λ heard all. live_goes t g n k l O m sent none e heard all)
      decided none false e = let gone : SendingLive t g n k l m → ⊥ = λ live. contrary live e in is_discarded none gone (discarded t g n k l O m sent gone)
