-- `bits::with` meets its contract: nothing is shifted out, and a power of two has one member.
use Prim.Native.Nat.{◌*◌, ◌%◌, ◌^◌}
use native.Mathlib.Nat.{one-mul}
use native.Mathlib.Omega.{arith}
use mathlib.Core.Path.{◌≡◌}
use lib.Pow.{shl_exact}
use Rattle.bits.proofs.BitLaws.{with_members}
use Rattle.bits.proofs.with.Goals as goal

pub returns : goal.returns
returns c =
    let kept : 1 * 2 ^ c.args.q % 2 ^ 64 ≡ 1 * 2 ^ c.args.q = shl_exact 1 c.args.q 64 (omega arith) (omega arith) in
    rw (kept, one-mul) (with_members c.args.word c.args.q)
