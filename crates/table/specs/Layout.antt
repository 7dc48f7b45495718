-- Where each field stands in the lent table. These are the only word positions of the definitions; src/lib.rt has the
-- same numbers as constants of the code.
use Rattle.std.specs.Prelude.{◌≡◌, cond, ℕ, ◌+◌, ◌-◌, ◌*◌, ◌/◌, ◌%◌, ◌<◌}
use Rattle.base.specs.Choice.{◌<?◌}
use Rattle.table.specs.Field.{Field, OfHead, OfController, Known, End, OfPlace, OfMessage, place_head, message_head}

-- how many there are of each
abbrev pub controllers : ℕ
controllers = 8

abbrev pub incarnations : ℕ
incarnations = 16

abbrev pub places : ℕ
places = 64

abbrev pub messages : ℕ
messages = 128

-- words of each record; a vector has two words for each controller
abbrev pub head_words : ℕ
head_words = 16

abbrev pub controller_words : ℕ
controller_words = 4

abbrev pub vector_words : ℕ
vector_words = 2 * controllers

abbrev pub place_words : ℕ
place_words = place_head + vector_words

abbrev pub message_words : ℕ
message_words = message_head + vector_words

abbrev pub rows_words : ℕ
rows_words = controllers * incarnations

abbrev pub chain_words : ℕ
chain_words = places * place_words

-- "The house is a lent table of 15,152 words of 32 bits": the regions, one after the other
abbrev pub controllers_from : ℕ
controllers_from = head_words

abbrev pub known_from : ℕ
known_from = controllers_from + controllers * controller_words

abbrev pub ends_from : ℕ
ends_from = known_from + controllers * rows_words

abbrev pub places_from : ℕ
places_from = ends_from + controllers * rows_words

abbrev pub messages_from : ℕ
messages_from = places_from + controllers * chain_words

abbrev pub table_words : ℕ
table_words = messages_from + messages * message_words

-- the fields that have a word in the table
abbrev pub Valid : Field → Type 0
Valid (OfHead i) = i < head_words
Valid (OfController c k) = (c < controllers) × (k < controller_words)
Valid (Known holder owner i) = (holder < controllers) × (owner < controllers) × (i < incarnations)
Valid (End holder owner i) = (holder < controllers) × (owner < controllers) × (i < incarnations)
Valid (OfPlace c p k) = (c < controllers) × (p < places) × (k < place_words)
Valid (OfMessage r k) = (r < messages) × (k < message_words)

-- the position of a field; a word with a name is a numeral and stands next to the base, so that the sum is the one that
-- the code writes
abbrev pub position : Field → ℕ
position (OfHead i) = i
position (OfController c k) = controllers_from + k + c * controller_words
position (Known holder owner i) = known_from + holder * rows_words + owner * incarnations + i
position (End holder owner i) = ends_from + holder * rows_words + owner * incarnations + i
position (OfPlace c p k) = places_from + k + c * chain_words + p * place_words
position (OfMessage r k) = messages_from + k + r * message_words

-- the field at a position
unfoldable pub field_at : ℕ → Field
field_at i =
    cond (i <? controllers_from) (OfHead i)
    (cond (i <? known_from) (let j = i - controllers_from in OfController (j / controller_words) (j % controller_words))
    (cond (i <? ends_from) (let j = i - known_from in Known (j / rows_words) (j / incarnations % controllers) (j % incarnations))
    (cond (i <? places_from) (let j = i - ends_from in End (j / rows_words) (j / incarnations % controllers) (j % incarnations))
    (cond (i <? messages_from) (let j = i - places_from in OfPlace (j / chain_words) (j / place_words % places) (j % place_words))
    (let j = i - messages_from in OfMessage (j / message_words) (j % message_words))))))

-- every position has its field
pub record Stands (i : ℕ) (f : Field) : Type 0 where
  pub valid : Valid f
  pub here : position f ≡ i
