-- How far the numbers of a group may rise.
use Rattle.std.specs.Prelude.{ℕ, ◌*◌, ◌^◌}

-- No slot, life, generation, term or number of a read comes up to this. It lies above all that a restart takes up and a history may add
-- to it, and far below the end of the numbers' type.
abbrev pub far : ℕ
far = 15 * 2 ^ 60
