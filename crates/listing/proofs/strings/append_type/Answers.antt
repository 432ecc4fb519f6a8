-- `listing::strings::append_type` meets its contract: whatever type is held, its simple types are copied.
use native.Mathlib.Omega.{arith}
use Prim.Native.Nat.{ℕ, ◌+◌, ◌≤◌}
use mathlib.Core.Path.{◌≡◌, refl, ap, ◌∙◌}
use mathlib.Core.List.{List, ◌++◌}
use lib.ListN.{length, take}
use Rattle.std.proofs.lemmas.List.{length-take-le}
use Rattle.std.proofs.lemmas.Slice.{take-put_mid}
use Rattle.listing.proofs.StringLaws.{appended}
use Rattle.listing.proofs.strings.append_type.Goals as goal

pub returns : goal.returns
returns c =
    let a = c.args in
    let copied = c.copy_from_slice in (
      refl,
      λ X h. (
          let room : a.t.count ≤ length a.t.simples = omega (arith, h.count, h.short) in
          let size : length copied.new.self ≡ a.t.count = ap (λ (l : List ℕ). length l) copied.ensures.after ∙ length-take-le a.t.count a.t.simples room in
          let front = take-put_mid a.from _ a.string.now copied.new.self (a.from + a.t.count) (omega (arith, size)) (omega arith) in
          appended a.t X h room a.string.now _ a.from (front ∙ ap (λ (l : List ℕ). take a.from a.string.now ++ l) copied.ensures.after)),
    )
