-- A test that passes, as a fact.
use Rattle.std.specs.Prelude.{◌≡◌, Bool, true}

-- the test b passes
abbrev pub Is : Bool → Type 0
Is b = b ≡ true
