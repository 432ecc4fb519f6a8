-- The version of the interface for C, as one number.
use Rattle.std.specs.Prelude.{ℕ, ◌+◌, ◌*◌}

abbrev pub major : ℕ
major = 2

abbrev pub minor : ℕ
minor = 2

abbrev pub patch : ℕ
patch = 0

abbrev pub version : ℕ
version = 10000 * major + 100 * minor + patch
