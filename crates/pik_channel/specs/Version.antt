-- The version of the library, which scripts/version holds to the header's PIK_VERSION.
use Rattle.std.specs.Prelude.{ℕ, ◌+◌, ◌*◌}

-- a version as one number: minor and patch have three decimal digits each
abbrev pub version_number : ℕ → ℕ → ℕ → ℕ
version_number major minor patch = 1000000 * major + 1000 * minor + patch

abbrev pub version : ℕ
version = version_number 1 0 0
