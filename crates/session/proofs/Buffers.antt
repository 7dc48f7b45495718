-- Laws of a session in its buffers, for the code that takes bytes. `o` is the buffer of answers before a line is
-- written, `u` after it.
use Rattle.std.specs.Prelude.{◌≡◌, refl, false, Some, None, ◌≢◌, ℕ, ◌+◌, ◌-◌, ◌≤◌, ◌<◌, length, get_or, set, take, drop}
use Rattle.std.proofs.Common.{sym, ap, ◌∙◌, arith, suc-ne-zero, add-one, length-append, take_all, take-suc, take-suc-set, drop-drop, length-take-le, eq-eqb, ne_eqb}
use mathlib.Core.List.{List, [], ◌∷◌, ◌++◌, foldl, foldl-append}
use Rattle.std.proofs.lemmas.List.{length-replicate, get_or-replicate, take-append-le}
use Rattle.std.proofs.lemmas.Bool.{lt-leb}
use Rattle.base.specs.Cases.{failed}
use Rattle.table.specs.Field.{Size}
use Rattle.table.specs.Layout.{table_words, position}
use Rattle.table.specs.Words.{state}
use Rattle.rules.specs.Limits.{house}
use Rattle.rules.specs.Form.{in_form, head_ok}
use Rattle.rules.specs.Step.{out_both, step}
use Rattle.rules.specs.declared.Answer.{Answer}
use Rattle.rules.specs.declared.Command.{Command}
use Rattle.formed.specs.Carry.{FormKnown}
use Rattle.lines.specs.Lines.{line_feed, parse, answer_line, bad_line}
use Rattle.printing.specs.Parts.{answer_room, Short}
use Rattle.printing.specs.declared.Output.{Output}
use Rattle.printing.proofs.Writing.{written_take, written_drop, written_length}
use Rattle.lines.specs.Program.{reply, reply_to, first_table}
use Rattle.session.specs.Driven.{Added}
use Rattle.session.specs.Taking.{Session, session, begun, line_room, ended, taken, taken_all, finished, served, paid, after}

-- a line that asked for x is answered by a
pub ended_asked : (t g l : List ℕ) {w h o u : List ℕ} {at r : ℕ} {x : Command} {a : Answer} → parse l ≡ Some x → out_both a w h ≡ step t g x →
    Short o at (answer_line a) u r → at ≤ length o → session w h [] (take r u) ≡ ended (session t g l (take at o))
unfolding ended reply reply_to
ended_asked t g l {w} {h} p e f b = rw (p, sym e) (ap (session w h []) (written_take f.written b))

-- a line that asked for nothing is answered `bad`
pub ended_bad : (t g l : List ℕ) {o u : List ℕ} {at r : ℕ} → parse l ≡ None → Short o at bad_line u r → at ≤ length o →
    session t g [] (take r u) ≡ ended (session t g l (take at o))
unfolding ended reply reply_to
ended_bad t g l p f b = rw p (ap (session t g []) (written_take f.written b))

-- a line feed
pub taken_feed : (s : Session) (b : ℕ) {r : Session} → b ≡ line_feed → r ≡ ended s → r ≡ taken s b
unfolding taken
taken_feed s b e h = rw (eq-eqb b line_feed e) h

-- another byte
pub taken_more : (t g line owed : List ℕ) (b : ℕ) {more : List ℕ} → b ≢ line_feed → more ≡ take line_room (line ++ b ∷ []) → session t g more owed ≡ taken (session t g line owed) b
unfolding taken
taken_more t g line owed b ne e = rw (ne_eqb b line_feed ne) (ap (λ (x : List ℕ). session t g x owed) e)

-- A byte more in the buffer of a line of which n bytes count, where there is room for it, and where there is none.
pub pushed : (line : List ℕ) (n b : ℕ) → length line ≡ line_room → n < line_room → take (n + 1) (set line n b) ≡ take line_room (take n line ++ b ∷ [])
pushed line n b l h =
    let q : take (n + 1) (set line n b) ≡ take n line ++ b ∷ [] = ap (λ (k : ℕ). take k (set line n b)) (add-one n) ∙ take-suc-set line n b (omega arith) in
    let z : length (take n line ++ b ∷ []) ≤ line_room = omega (arith, length-append (take n line) (b ∷ []), length-take-le n line (omega arith)) in
    q ∙ sym (take_all line_room (take n line ++ b ∷ []) z)

pub pushed_full : (line : List ℕ) (n b : ℕ) → length line ≡ line_room → n ≤ line_room → line_room ≤ n → take n line ≡ take line_room (take n line ++ b ∷ [])
pushed_full line n b l h k =
    let z : length (take n line) ≡ n = length-take-le n line (omega arith) in
    sym (take-append-le line_room (take n line) (b ∷ []) (omega arith) ∙ take_all line_room (take n line) (omega arith))

-- the bytes of a buffer from k on are as before, and so are those from a later place on
pub behind_later : (o u w : List ℕ) (j k : ℕ) → drop j u ≡ drop j o → drop k w ≡ drop k u → j ≤ k → drop k w ≡ drop k o
behind_later o u w j k e f h =
    let q : j + (k - j) ≡ k = omega arith in
    f ∙ sym (ap (λ (i : ℕ). drop i u) q) ∙ sym (drop-drop (k - j) j u) ∙ ap (drop (k - j)) e ∙ drop-drop (k - j) j o ∙ ap (λ (i : ℕ). drop i o) q

-- an answer is added
pub added_answer : {o u : Output} {line : List ℕ} → Short o.bytes.now o.end line u.bytes.now u.end → o.end + answer_room ≤ length o.bytes.now →
    u.bytes.ghost_name ≡ o.bytes.ghost_name → Added o answer_room u
added_answer f h e = record {
  grows = omega (arith, f.written.ends);
  fits = f.fits;
  size = written_length f.written (omega arith);
  beyond = written_drop f.written (omega arith);
  same_reference = e;
}

-- bytes are added behind others
pub added_more : {o u w : Output} {m n k : ℕ} → Added o m u → Added u n w → m + n ≤ k → Added o k w
added_more {o} {u} {w} f g h = record {
  grows = omega (arith, f.grows, g.grows);
  fits = omega (arith, f.fits, g.fits);
  size = g.size ∙ f.size;
  beyond = behind_later o.bytes.now u.bytes.now w.bytes.now u.end w.end f.beyond g.beyond g.grows;
  same_reference = g.same_reference ∙ f.same_reference;
}

-- the next byte of a read
pub taken_next : (s : Session) (bytes : List ℕ) (i : ℕ) {r q : Session} → r ≡ taken_all s (take i bytes) → q ≡ taken r (get_or bytes i 0) → i < length bytes →
    q ≡ taken_all s (take (i + 1) bytes)
taken_next s bytes i e f h =
    f
    ∙ ap (λ (x : Session). taken x (get_or bytes i 0)) e
    ∙ sym (ap (foldl taken s) (ap (λ (k : ℕ). take k bytes) (add-one i) ∙ take-suc bytes i 0 h) ∙ foldl-append taken s (take i bytes) (get_or bytes i 0 ∷ []))

-- the end of the input
pub finished_none : (t g line owed : List ℕ) → length line ≡ 0 → session t g line owed ≡ finished (session t g line owed)
unfolding finished
finished_none t g line owed e = rw e

pub finished_more : (t g line owed : List ℕ) {r : Session} → length line ≢ 0 → r ≡ ended (session t g line owed) → r ≡ finished (session t g line owed)
unfolding finished
finished_more t g line owed ne h = rw (ne_eqb (length line) 0 ne) h

-- a read that has no bytes, and one that has some
pub served_none : (s : Session) (bytes : List ℕ) {r : Session} → length bytes ≡ 0 → r ≡ finished s → r ≡ served s bytes
unfolding served
served_none s [] e h = h
served_none s (b ∷ bytes) e h = absurd (suc-ne-zero (length bytes) e)

pub served_some : (s : Session) (bytes : List ℕ) {r : Session} → length bytes ≢ 0 → r ≡ taken_all s bytes → r ≡ served s bytes
unfolding served
served_some s [] ne h = absurd (ne refl)
served_some s (b ∷ bytes) ne h = h

-- The loop of the program: its table, its ledger and the bytes of a line that hasn't ended are those after some reads.
pub record Reached (t g line : List ℕ) : Type 0 where
  pub reads : List (List ℕ)
  pub here : session t g line [] ≡ after reads

pub reached_first : {t g line : List ℕ} → session t g line [] ≡ begun → Reached t g line
reached_first e = record { reads = []; here = e }

-- a table without controllers is not in form, and the first one has none
sizeless : (t : List ℕ) → state t Size ≡ 0 → in_form house (state t) ≡ false
unfolding in_form head_ok
sizeless t z = let head : head_ok house (state t) ≡ false = failed _ (lt-leb 1 (state t Size) (omega arith)) (λ w. search w) in failed _ head (λ w. search w)

pub first_unformed : FormKnown first_table false
first_unformed = (length-replicate {A = ℕ} table_words 0, sym (sizeless first_table (get_or-replicate {A = ℕ} table_words (position Size) 0 0 (omega arith))))

pub reached_next : {t g l w h k owed : List ℕ} (bytes : List ℕ) → Reached t g l → length bytes ≢ 0 → session w h k owed ≡ served (session t g l []) bytes → Reached w h k
reached_next {t} {g} {l} bytes f ne e = record {
  reads = f.reads ++ bytes ∷ [];
  here =
      ap paid (e ∙ sym (served_some (session t g l []) bytes ne refl) ∙ ap (λ (s : Session). taken_all s bytes) f.here)
      ∙ sym (foldl-append (λ (s : Session) (r : List ℕ). paid (taken_all s r)) begun f.reads (bytes ∷ []));
}
