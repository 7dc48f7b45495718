-- What starting anew, removing intervals and rolling back leave on states with the same words.
use Rattle.std.specs.Prelude.{◌≡◌, List, ℕ, ◌-◌}
use Rattle.std.proofs.Common.{arith}
use Rattle.table.specs.Field.{State}
use Rattle.table.specs.Words.{state, words, Agree}
use Rattle.table.proofs.Words.{agree_words, called}
use Rattle.rules.specs.Shared.{capped, start_anew, removed}
use Rattle.rules.specs.Steps.{rolled_back}
use Rattle.laws.specs.Agree.{agree_capped, agree_causes, agree_logged_to, agree_start_anew}
use Rattle.laws.specs.Chain.{Counts, counts_words, Starts, starts_words, starts_causes, starts_logged_to}

-- the newest interval was checkpointed, if that was due, on a table with the words of σ
pub then_capped : (σ : State) (c : ℕ) {t u : List ℕ} → Counts σ c → t ≡ words σ → u ≡ words (capped (state t) c) → u ≡ words (capped σ c)
then_capped σ c w e q =
    let v = counts_words σ c e w in called (λ τ. capped τ c) σ e q (agree_capped _ σ (agree_words σ e) c v.named v.live_le)

-- a start
agree_start : (σ τ : State) (c k : ℕ) → Starts σ c k → Agree σ τ → Agree (start_anew σ c k) (start_anew τ c k)
agree_start σ τ c k s e =
    agree_start_anew σ τ e c k s.chain.named s.room.place_lt s.kept (s.chain.near (k - 1) (omega (arith, s.kept, s.below)))

-- a start was made on a table with the words of σ
pub then_start : (σ : State) (c k : ℕ) {t u : List ℕ} → Starts σ c k → t ≡ words σ → u ≡ words (start_anew (state t) c k) → u ≡ words (start_anew σ c k)
then_start σ c k s e q = called (λ τ. start_anew τ c k) σ e q (agree_start _ σ c k (starts_words σ c k e s) (agree_words σ e))

-- intervals from place k on were removed
pub agree_removed : (σ τ : State) (c k : ℕ) → Starts σ c k → Agree σ τ → Agree (removed σ c k) (removed τ c k)
unfolding removed
agree_removed σ τ c k s e =
    let w = s.chain in
    agree_start _ _ c k (starts_causes σ c k k s) (agree_causes σ τ e c k w.named s.below w.live_le w.message_near)

-- they were removed on a table with the words of σ
pub then_removed : (σ : State) (c k : ℕ) {t u : List ℕ} → Starts σ c k → t ≡ words σ → u ≡ words (removed (state t) c k) → u ≡ words (removed σ c k)
then_removed σ c k s e q = called (λ τ. removed τ c k) σ e q (agree_removed _ σ c k (starts_words σ c k e s) (agree_words σ e))

-- a rollback
pub agree_rolled : (σ τ : State) (hearer k : ℕ) → Starts σ hearer k → Agree σ τ → Agree (rolled_back σ hearer k) (rolled_back τ hearer k)
unfolding rolled_back
agree_rolled σ τ hearer k s e = agree_removed _ _ hearer k (starts_logged_to σ hearer k k s) (agree_logged_to σ τ e hearer k s.chain.named)
