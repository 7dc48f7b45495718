-- Records from a count on are unused: they are right if the run of their words is 0.
use Rattle.std.specs.Prelude.{◌≡◌, Bool, ◌&&◌, List, ℕ, ◌+◌, ◌*◌, ◌-◌, ◌≤◌, ◌<◌, min}
use Rattle.std.proofs.Common.{sym, ap, ap₂, ◌∙◌, add-mul, add_assoc, arith, le-ltb}
use Rattle.base.specs.Ranges.{allb, allb_split, allb_ext}
use Rattle.table.specs.Field.{OfPlace, OfMessage, LiveCount}
use Rattle.table.specs.Layout.{position, places, messages, place_words, message_words}
use Rattle.table.specs.Words.{state}
use Rattle.table.specs.Numbering.{used}
use Rattle.rules.specs.Limits.{house}
use Rattle.rules.specs.Form.{place_ok, message_ok}
use Rattle.parts.specs.Zeros.{zeros_from, zeros_records, zeros_place, zeros_message}

-- Of n records of w words each, those from k on are unused: all are right if the first k are, and the rest is 0.
unused : (t : List ℕ) (f : ℕ → Bool) (base w k n at : ℕ) (ok rest : Bool) → k ≤ n → ((p : ℕ) → k ≤ p → p < n → f p ≡ zeros_from t (base + p * w) w) →
    ok ≡ allb k f → at ≡ base + k * w → rest ≡ zeros_from t at ((n - k) * w) → (ok && rest) ≡ allb n f
unused t f base w k n at ok rest l h a e r =
    ap₂ (λ (x y : Bool). x && y) a
    (r
    ∙ ap (λ (i : ℕ). zeros_from t i ((n - k) * w)) e
    ∙ zeros_records t (base + k * w) w (n - k)
    ∙ allb_ext (λ (i : ℕ). zeros_from t (base + k * w + i * w) w) (λ (i : ℕ). f (k + i)) (n - k)
    (λ (i : ℕ) (p : i < n - k). ap (λ (j : ℕ). zeros_from t j w) (add_assoc base (k * w) (i * w) ∙ ap (λ (j : ℕ). base + j) (sym (add-mul k i w))) ∙ sym (h (k + i) (omega arith) (omega arith))))
    ∙ sym (allb_split f k (n - k))
    ∙ ap (λ (m : ℕ). allb m f) (omega arith)

-- a place from the live count on, and a message record from those in use on, is right if it is 0
place_free : (t : List ℕ) (n c p at : ℕ) → at ≡ position (OfPlace c p 0) → state t (LiveCount c) ≤ p → place_ok house n (state t) c p ≡ zeros_from t at place_words
unfolding place_ok
place_free t n c p at e l = rw (le-ltb p (state t (LiveCount c)) l) (sym (zeros_place t c p at e))

message_free : (t : List ℕ) (n r at : ℕ) → at ≡ position (OfMessage r 0) → used (state t) ≤ r → message_ok house n (state t) r ≡ zeros_from t at message_words
unfolding message_ok
message_free t n r at e l = rw (le-ltb r (used (state t)) l) (sym (zeros_message t r at e))

-- the places of c, and the messages, of which the first k are in use
pub all_places : (t : List ℕ) (n c k at : ℕ) (ok rest : Bool) → k ≡ min (state t (LiveCount c)) places → ok ≡ allb k (place_ok house n (state t) c) →
    at ≡ position (OfPlace c k 0) → rest ≡ zeros_from t at ((places - k) * place_words) → (ok && rest) ≡ allb places (place_ok house n (state t) c)
all_places t n c k at ok rest e p l z =
    unused t (place_ok house n (state t) c) (position (OfPlace c 0 0)) place_words k places at ok rest (omega arith)
    (λ q l u. place_free t n c q _ (omega arith) (omega arith)) p (omega arith) z

pub all_messages : (t : List ℕ) (n k at : ℕ) (ok rest : Bool) → k ≡ min (used (state t)) messages → ok ≡ allb k (message_ok house n (state t)) →
    at ≡ position (OfMessage k 0) → rest ≡ zeros_from t at ((messages - k) * message_words) → (ok && rest) ≡ allb messages (message_ok house n (state t))
all_messages t n k at ok rest e p l z =
    unused t (message_ok house n (state t)) (position (OfMessage 0 0)) message_words k messages at ok rest (omega arith)
    (λ q l u. message_free t n q _ (omega arith) (omega arith)) p (omega arith) z
