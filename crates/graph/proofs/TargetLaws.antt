-- The right adjoint of a target's type, which stands behind a line.
use mathlib.Core.Path.{◌≡◌, refl}
use mathlib.Core.List.{[], ◌∷◌}
use lib.IntN.{pos}
use Rattle.pregroup.specs.Types.{Basic, adjoint_by, right_adjoint, ◌⁽◌⁾}
use Rattle.linking.specs.Reading.{target_type}

pub target_adjoint : (t : Basic) → right_adjoint (target_type t) ≡ t ⁽ pos 1 ⁾ ∷ []
unfolding adjoint_by
target_adjoint t = refl
