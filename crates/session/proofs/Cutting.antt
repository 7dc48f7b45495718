-- Laws of taking bytes one by one: what is owed in the end is what the lines of the input ask for.
use Rattle.std.specs.Prelude.{◌≡◌, refl, Bool, true, false, cond, List, [], ◌∷◌, ◌++◌, ℕ, length, take}
use Rattle.std.proofs.Common.{sym, ap, ◌∙◌, append_assoc, append-nil, arith, take_all, take-take, length-take-le, ne_eqb, ◌==◌}
use Rattle.std.proofs.lemmas.List.{take-append-le}
use Rattle.std.proofs.lemmas.Bool.{lt-leb}
use Rattle.base.specs.Choice.{le?}
use Rattle.lines.specs.Lines.{line_feed, longest_line, first_more, parse}
use Rattle.lines.specs.Program.{lines_of, Reply, reply_to, reply, replies, house_writes, first_table, first_ledger}
use Rattle.session.specs.Taking.{Session, session, begun, line_room, ended, taken, taken_all, finished, paid}

-- A line that is too long is so if it is cut to its room, and at every byte.
parse_cut : (l : List ℕ) → parse (take line_room l) ≡ parse l
unfolding parse
parse_cut l =
    le? (length l) longest_line
    (λ h. ap parse (take_all line_room l (omega arith)))
    (λ h. rw (length-take-le line_room l (omega arith), lt-leb (length l) longest_line h))

reply_cut : (t g l : List ℕ) → reply t g (take line_room l) ≡ reply t g l
unfolding reply
reply_cut t g l = ap (reply_to t g) (parse_cut l)

cut_again : (l : List ℕ) (b : ℕ) → take line_room (take line_room l ++ b ∷ []) ≡ take line_room (l ++ b ∷ [])
cut_again l b =
    le? line_room (length l)
    (λ h. take-append-le line_room (take line_room l) (b ∷ []) (omega (arith, length-take-le line_room l h)) ∙ take-take line_room line_room l (omega arith) ∙ sym (take-append-le line_room l (b ∷ []) h))
    (λ h. ap (λ (x : List ℕ). take line_room (x ++ b ∷ [])) (take_all line_room l (omega arith)))

-- lines whose first one had begun with l
unfoldable begun_with : List ℕ → List (List ℕ) → List (List ℕ)
begun_with [] ls = ls
begun_with (x ∷ l) [] = (x ∷ l) ∷ []
begun_with (x ∷ l) (f ∷ fs) = (x ∷ l ++ f) ∷ fs

begun_with_byte : (l : List ℕ) (b : ℕ) (ls : List (List ℕ)) → begun_with (l ++ b ∷ []) ls ≡ begun_with l (first_more b ls)
unfolding begun_with
begun_with_byte [] b [] = refl
begun_with_byte [] b (f ∷ fs) = refl
begun_with_byte (x ∷ l) b [] = refl
begun_with_byte (x ∷ l) b (f ∷ fs) = ap {B = List (List ℕ)} (λ y. (x ∷ y) ∷ fs) (append_assoc l (b ∷ []) f)

-- a line that ends at once
begun_with_ended : (t g l : List ℕ) (ls : List (List ℕ)) → replies t g (begun_with l ([] ∷ ls)) ≡ (reply t g l).line ++ replies (reply t g l).table (reply t g l).ledger ls
unfolding begun_with replies
begun_with_ended t g [] ls = refl
begun_with_ended t g (x ∷ l) ls = rw (append-nil l)

-- What is owed in the end for these bytes, after a line that had begun with l.
abbrev AllOwed : List ℕ → List ℕ → List ℕ → List ℕ → List ℕ → Type 0
AllOwed bytes t g l owed = (finished (taken_all (session t g (take line_room l) owed) bytes)).owed ≡ owed ++ replies t g (begun_with l (lines_of bytes))

owed_byte : (b : ℕ) (bytes t g l owed : List ℕ) → ((t g l owed : List ℕ) → AllOwed bytes t g l owed) → (feed : Bool) → (b == line_feed) ≡ feed → AllOwed (b ∷ bytes) t g l owed
unfolding lines_of ended taken begun_with
owed_byte b bytes t g l owed rest true e =
    let r = reply t g l in
    rw e
    (ap (λ r. (finished (taken_all (session r.table r.ledger [] (owed ++ r.line)) bytes)).owed) (reply_cut t g l)
    ∙ rest r.table r.ledger [] (owed ++ r.line)
    ∙ append_assoc owed r.line (replies r.table r.ledger (lines_of bytes))
    ∙ ap (λ (x : List ℕ). owed ++ x) (sym (begun_with_ended t g l (lines_of bytes))))
owed_byte b bytes t g l owed rest false e =
    rw e
    (ap (λ (x : List ℕ). (finished (taken_all (session t g x owed) bytes)).owed) (cut_again l b)
    ∙ rest t g (l ++ b ∷ []) owed
    ∙ ap (λ (x : List (List ℕ)). owed ++ replies t g x) (begun_with_byte l b (lines_of bytes)))

all_owed : (bytes t g l owed : List ℕ) → AllOwed bytes t g l owed
unfolding finished lines_of begun_with replies ended
all_owed [] t g [] owed = sym (append-nil owed)
all_owed [] t g (x ∷ l) owed =
    rw (ne_eqb (length (take line_room (x ∷ l))) 0 (λ e. omega (arith, e)))
    (ap (λ (r : Reply). owed ++ r.line) (reply_cut t g (x ∷ l)) ∙ ap (λ (y : List ℕ). owed ++ y) (sym (append-nil (reply t g (x ∷ l)).line)))
all_owed (b ∷ bytes) t g l owed = owed_byte b bytes t g l owed (all_owed bytes) (b == line_feed) refl

-- What is owed beforehand stands before the rest.
abbrev owing : List ℕ → Session → Session
owing o s = session s.table s.ledger s.line (o ++ s.owed)

owing_ended : (o : List ℕ) (s : Session) → ended (owing o s) ≡ owing o (ended s)
unfolding ended
owing_ended o s = let r = reply s.table s.ledger s.line in ap (session r.table r.ledger []) (append_assoc o s.owed r.line)

owing_taken : (o : List ℕ) (s : Session) (b : ℕ) → taken (owing o s) b ≡ owing o (taken s b)
unfolding taken
owing_taken o s b = choice (b == line_feed)
  where
    more : Session
    more = session s.table s.ledger (take line_room (s.line ++ b ∷ [])) s.owed

    choice : (z : Bool) → cond z (ended (owing o s)) (owing o more) ≡ owing o (cond z (ended s) more)
    choice true = owing_ended o s
    choice false = refl

owing_all : (o : List ℕ) (bytes : List ℕ) (s : Session) → taken_all (owing o s) bytes ≡ owing o (taken_all s bytes)
owing_all o [] s = refl
owing_all o (b ∷ bytes) s = ap (λ (u : Session). taken_all u bytes) (owing_taken o s b) ∙ owing_all o bytes (taken s b)

owing_finished : (o : List ℕ) (s : Session) → finished (owing o s) ≡ owing o (finished s)
unfolding finished
owing_finished o s = choice (length s.line == 0)
  where
    choice : (z : Bool) → cond z (owing o s) (ended (owing o s)) ≡ owing o (cond z s (ended s))
    choice true = refl
    choice false = owing_ended o s

-- what is written out after a read is no longer owed
pub owed_paid : (s : Session) (bytes : List ℕ) → s.owed ++ (finished (taken_all (paid s) bytes)).owed ≡ (finished (taken_all s bytes)).owed
owed_paid s bytes =
    ap (λ (u : Session). u.owed) (sym (ap finished (owing_all s.owed bytes (paid s)) ∙ owing_finished s.owed (taken_all (paid s) bytes)))
    ∙ ap (λ (o : List ℕ). (finished (taken_all (session s.table s.ledger s.line o) bytes)).owed) (append-nil s.owed)

-- all bytes of an input, and its end
pub owed_in_all : (input : List ℕ) → (finished (taken_all begun input)).owed ≡ house_writes input
unfolding house_writes begun_with
owed_in_all input = all_owed input first_table first_ledger [] []
