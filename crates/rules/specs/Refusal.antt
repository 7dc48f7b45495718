-- Document 01, "Refused, and by whom it is caused", and the requests: the numbers by name. The code (src/refusal.rt, by Refused.antt),
-- include/goulvizad.h and the second implementation have the same names, spelt as each does.
use Rattle.std.specs.Prelude.{ℕ}

-- "The host that lends the table": "1 length is not 15,152"
abbrev pub LENGTH : ℕ
LENGTH = 1

-- "2 table not in form (not looked at by open)"
abbrev pub FORM : ℕ
FORM = 2

-- W2: "14 when the ledger's length is not 257, its count is above 128, or a pair past the count is not 0; it stands directly
-- after 2, at release and, for the length only, directly after 1 at opening."
abbrev pub LEDGER : ℕ
LEDGER = 14

-- "The caller naming things": "3 controller not below n"
abbrev pub CONTROLLER : ℕ
CONTROLLER = 3

-- "4 message number 0 or above the messages sent"
abbrev pub MESSAGE : ℕ
MESSAGE = 4

-- "5 n not 1 to 8, or a degree above n"; W4: "A Q above 64 is refused with 5"
abbrev pub DEGREE : ℕ
DEGREE = 5

-- "6 the two controllers of S or T are equal"; W5: "A list of another length, or a message named twice, is refused with 6."
abbrev pub SAME_CONTROLLER : ℕ
SAME_CONTROLLER = 6

-- "The order of steps": "7 release of a message not held, delivery of one not released"
abbrev pub STATE : ℕ
STATE = 7

-- W5: "15 when the messages have more than one sender; it stands directly after 7."
abbrev pub SENDERS : ℕ
SENDERS = 15

-- "8 q is 0 or above live minus stable"
abbrev pub LOG_COUNT : ℕ
LOG_COUNT = 8

-- "9 a's own end word for t is 0, or t above 15"
abbrev pub NO_SUCH_CRASH : ℕ
NO_SUCH_CRASH = 9

-- "10 b's end word for a and t isn't 0 (so b = a too, where 9 doesn't apply)"
abbrev pub ALREADY_HEARD : ℕ
ALREADY_HEARD = 10

-- "Too much used": "11 128 messages were sent since opening (message numbers are not reused)"
abbrev pub MESSAGES_USED_UP : ℕ
MESSAGES_USED_UP = 11

-- "12 delivery with 64 live, unless it drops or waits; crash with 64 stable"
abbrev pub PLACES_USED_UP : ℕ
PLACES_USED_UP = 12

-- "13 crash, or a hearing that must undo, in incarnation 15"
abbrev pub INCARNATIONS_USED_UP : ℕ
INCARNATIONS_USED_UP = 13

-- W2: "18 when publishing would carry the count past 128; it stands last at release."
abbrev pub LEDGER_USED_UP : ℕ
LEDGER_USED_UP = 18
