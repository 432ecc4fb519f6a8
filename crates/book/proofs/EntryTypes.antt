-- The type of a kept entry, by the kind of its record: of a text or of pairs of bytes.
use Prim.Native.Nat.{ℕ, suc, ◌*◌, ◌/◌, ◌%◌, ◌≤◌}
use native.Mathlib.Omega.{arith}
use mathlib.Core.Path.{◌≡◌, sym, ap, subst, ◌∙◌}
use mathlib.Core.Bool.{Bool, true, false, cond}
use mathlib.Core.List.{List}
use lib.ListN.{length}
use borrow.Author.Tests.{eq-eqb, ne_eqb}
use Rattle.figures.specs.Limits.{max_entry_simples}
use Rattle.pregroup.specs.Types.{PregroupType}
use Rattle.format.specs.Records.{Bytes, every, kind_at, body_at}
use Rattle.notation.specs.Brackets.{too_deep}
use Rattle.notation.specs.Trees.{has_tree, text_type, slashes}
use Rattle.book.specs.declared.EntryType.{EntryType}
use Rattle.rules.specs.Layouts.{type_part, simples_of, slashed}
use Rattle.rules.specs.Rules.{exponents, exponent_listed}
use Rattle.book.specs.Kept.{entry_from, Shaped, as_simples, as_text, Formed, HeldType}
use Rattle.book.proofs.HeldTypes.{simples_length}
use Rattle.rules.proofs.Texts.{text_length}

shaped_text : {kind : ℕ} {part : Bytes} → Shaped kind part → kind ≡ slashed → (too_deep part ≡ false) × (has_tree part ≡ true)
shaped_text (as_simples pairs) e = absurd (omega arith)
shaped_text (as_text shallow tree) e = (shallow, tree)

shaped_pairs : {kind : ℕ} {part : Bytes} → Shaped kind part → (kind ≡ slashed → ⊥) → length part % 2 ≡ 0
shaped_pairs (as_simples pairs) e = pairs
shaped_pairs (as_text shallow tree) e = absurd (omega (arith, e))

module _ (bytes : Bytes) (names : List Bytes) (at : ℕ) where
  abbrev part_at : Bytes
  part_at = type_part (body_at bytes at)

  abbrev type_if : Bool → PregroupType
  type_if text = cond text (text_type names part_at) (simples_of part_at)

  type_of_text : kind_at bytes at ≡ slashed → (entry_from bytes names at).type ≡ text_type names part_at
  type_of_text k = ap type_if (eq-eqb (kind_at bytes at) slashed k)

  type_of_pairs : (kind_at bytes at ≡ slashed → ⊥) → (entry_from bytes names at).type ≡ simples_of part_at
  type_of_pairs k = ap type_if (ne_eqb (kind_at bytes at) slashed k)

  module _ (part : Bytes) (is : part ≡ type_part (body_at bytes at)) where
    -- A text, and pairs, that are held as the entry's type.
    pub text_entry : kind_at bytes at ≡ slashed → (t : EntryType) → HeldType t (text_type names part) → HeldType t (entry_from bytes names at).type
    text_entry k t h = subst (HeldType t) (ap (λ (p : Bytes). text_type names p) is ∙ sym (type_of_text k)) h

    pub pairs_entry : (kind_at bytes at ≡ slashed → ⊥) → (t : EntryType) → HeldType t (simples_of part) → HeldType t (entry_from bytes names at).type
    pairs_entry k t h = subst (HeldType t) (ap (λ (p : Bytes). simples_of p) is ∙ sym (type_of_pairs k)) h

    module _ (f : Formed bytes names at) where
      pub formed_text : kind_at bytes at ≡ slashed → (too_deep part ≡ false) × (length (text_type names part) ≤ max_entry_simples)
      formed_text k =
          let size : length (text_type names part) ≡ length (entry_from bytes names at).type =
          ap (λ (p : Bytes). length (text_type names p)) is ∙ sym (ap (λ (X : PregroupType). length X) (type_of_text k)) in
          (ap (λ (p : Bytes). too_deep p) is ∙ (shaped_text f.shaped k).0, omega (arith, f.short))

      -- How many simple types there are.
      pub text_entry_length : kind_at bytes at ≡ slashed → suc (slashes part) ≡ length (entry_from bytes names at).type
      text_entry_length k =
          ap (λ (p : Bytes). suc (slashes p)) is ∙ sym (text_length names part_at (shaped_text f.shaped k).1)
          ∙ sym (ap (λ (X : PregroupType). length X) (type_of_text k))

      pub pairs_entry_length : (kind_at bytes at ≡ slashed → ⊥) → length part / 2 ≡ length (entry_from bytes names at).type
      pairs_entry_length k =
          ap (λ (p : Bytes). length p / 2) is ∙ sym (simples_length part_at (shaped_pairs f.shaped k)) ∙ sym (ap (λ (X : PregroupType). length X) (type_of_pairs k))

      pub formed_pairs :
          (kind_at bytes at ≡ slashed → ⊥) → (length part % 2 ≡ 0) × (length part ≤ 2 * max_entry_simples) × (every exponent_listed (exponents (simples_of part)) ≡ true)
      formed_pairs k =
          let pairs : length part % 2 ≡ 0 = ap (λ (p : Bytes). length p % 2) is ∙ shaped_pairs f.shaped k in (
            pairs,
            omega (arith, pairs_entry_length k, f.short),
            ap (λ (p : Bytes). every exponent_listed (exponents (simples_of p))) is
                ∙ sym (ap (λ (X : PregroupType). every exponent_listed (exponents X)) (type_of_pairs k))
                ∙ f.listed,
          )
