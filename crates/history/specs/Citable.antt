-- What a scholar may cite. The minutes: one recovery machine for all controllers, "so that readings may be cited"; "A frame count taken from undone
-- work and then printed is a wrong record that can't be recalled." So each entry of the ledger, at the end of any list of calls from an
-- opening, says what was sent, and the work that sent it stands.
use Rattle.std.specs.Prelude.{◌≡◌, true, false, List, ℕ, ◌<◌}
use Rattle.std.proofs.Common.{sym, ◌∙◌, true≢false}
use Rattle.table.specs.Field.{desk}
use Rattle.rules.specs.Ledger.{count_of, cited_message, cited_payload}
use Rattle.rules.specs.Step.{Call}
use Rattle.history.specs.History.{Interval, History, newest}
use Rattle.history.specs.Demand.{up_to, end}
use Rattle.history.specs.Progress.{SentIn, SendingLive, LetOutIn, NotLetOut}

-- lists from the opening of t, beside the ledger g, with n and k
module _ (t g : List ℕ) (n k : ℕ) (l : List Call) where
  -- the ledger and the history at the end of the list
  abbrev ledger : List ℕ
  ledger = (up_to t g n k l).ledger

  abbrev h : History
  h = end t g n k l

  -- the newest live interval of its sender, when a message was sent
  abbrev pub newest_then : {m : ℕ} → SentIn t g n k l m → Interval
  newest_then s = newest ((up_to t g n k s.before).history.chain s.sender)

  -- Message m may be cited with the payload p:
  pub record Citable (m p : ℕ) : Type 0 where
    -- it was sent in the list, to the desk and with that payload,
    pub sent : SentIn t g n k l m
    pub to_desk_lem : sent.receiver ≡ desk
    pub payload_is : sent.payload ≡ p
    -- and a release in the list let it out with nobody named;
    pub let_out_lem : LetOutIn t g n k l m 0
    -- the interval that sent it is live at the end, and lost in no crash.
    pub sent_from_lem : h.sending m ≡ newest_then sent
    pub live : SendingLive t g n k l m
    pub not_lost : (crash : ℕ) → h.lost (h.sending m) crash ≡ false

  -- Every entry of the ledger may be cited.
  abbrev pub AllCitable : Type 0
  AllCitable = (j : ℕ) → j < count_of ledger → Citable (cited_message ledger j) (cited_payload ledger j)

  -- What this excludes, each a wrong record: a reading
  pub data Uncitable (m p : ℕ) : Type 0 where
    -- that no send in the list sent so, to the desk and from its sending interval,
    not_sent : ((s : SentIn t g n k l m) → s.receiver ≡ desk → s.payload ≡ p → h.sending m ≡ newest_then s → ⊥) → Uncitable m p
    -- that is still held,
    not_let_out : NotLetOut t g n k l m → Uncitable m p
    -- or whose sending interval is undone or lost.
    not_live : (SendingLive t g n k l m → ⊥) → Uncitable m p
    is_lost : (crash : ℕ) → h.lost (h.sending m) crash ≡ true → Uncitable m p

  pub no_wrong_record : (m p : ℕ) → Citable m p → Uncitable m p → ⊥
  no_wrong_record m p c (not_sent none) = none c.sent c.to_desk_lem c.payload_is c.sent_from_lem
  no_wrong_record m p c (not_let_out none) = none 0 c.let_out_lem
  no_wrong_record m p c (not_live gone) = gone c.live
  no_wrong_record m p c (is_lost crash lost) = true≢false (sym lost ∙ c.not_lost crash)
