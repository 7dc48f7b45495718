-- Which vectors a delivery may merge.
use Rattle.std.specs.Prelude.{◌≡◌, ◌≢◌, ℕ, ◌<◌}
use Rattle.model.specs.Model.{Vec, full}
use Rattle.model.specs.Tests.{Is}

-- "an owner other than c has non-empty pairs of different incarnations in the two": none has
abbrev pub Compatible : ℕ → ℕ → Vec → Vec → Type 0
Compatible n c v w = (a : ℕ) → a < n → a ≢ c → Is (full (v a)) → Is (full (w a)) → (v a).incarnation ≡ (w a).incarnation
