-- What each answer is on paper: its word, the number that the C interface gives it, and its values in the order of document 01; W5: "The
-- answer is released or held, with the union"; W6: `dropped` and `rolled` "now name the crash by controller and incarnation, added at the
-- end"; W7: "it says idle".
use Rattle.std.specs.Prelude.{List, [], ◌∷◌, ℕ}
use Rattle.rules.specs.Bytes.{bytes}
use Rattle.rules.specs.declared.Answer.{Answer}
use Rattle.rules.specs.declared.Answer.TheVariants.{Done, Sent, Released, Held, Delivered, Dropped, Waits, Crashed, Heard, Rolled, Refused, SetReleased, SetHeld, Idle}

pub record Report : Type 0 where
  pub word : List ℕ
  pub number : ℕ
  pub values : List ℕ

abbrev says : List ℕ → ℕ → List ℕ → Report
says word number values = record { word = word; number = number; values = values }

unfoldable pub report : Answer → Report
report Done = says (bytes "done") 0 []
report (Sent m) = says (bytes "sent") 1 (m ∷ [])
report (Released m mask) = says (bytes "released") 2 (m ∷ mask ∷ [])
report (Held m mask) = says (bytes "held") 3 (m ∷ mask ∷ [])
report (Delivered m i x) = says (bytes "delivered") 4 (m ∷ i ∷ x ∷ [])
report (Dropped m owner i) = says (bytes "dropped") 5 (m ∷ owner ∷ i ∷ [])
report (Waits m) = says (bytes "waits") 6 (m ∷ [])
report (Crashed c i k lost replayed) = says (bytes "crashed") 7 (c ∷ i ∷ k ∷ lost ∷ replayed ∷ [])
report (Heard b) = says (bytes "heard") 8 (b ∷ [])
report (Rolled b k undone replayed owner i) = says (bytes "rolled") 9 (b ∷ k ∷ undone ∷ replayed ∷ owner ∷ i ∷ [])
report (Refused number) = says (bytes "refused") 10 (number ∷ [])
report (SetReleased mask) = says (bytes "released") 11 (mask ∷ [])
report (SetHeld mask) = says (bytes "held") 12 (mask ∷ [])
report Idle = says (bytes "idle") 13 []
