-- A row gathered part by part: the start at first, then one part more each turn, and parts that have no member passed over.
use Prim.Native.Nat.{ℕ, ◌+◌, ◌≤◌, ◌<◌}
use native.Mathlib.Omega.{arith}
use mathlib.Core.Path.{◌≡◌, sym, ◌∙◌}
use mathlib.Core.Logic.{◌↔◌, ◌⊎◌, inl, inr, ⊎_elim}
use mathlib.Core.List.{List}
use Rattle.bits.specs.Rows.{InRow, RowSays}
use Rattle.bits.specs.Gathered.{Gathered, itself, within}
use Rattle.bits.proofs.Cases.{less_or_not}

-- The parts below i.
pub record Below (i : ℕ) (Part : ℕ → ℕ → Type 0) (m v : ℕ) : Type 0 where
  pub less : m < i
  pub part : Part m v

-- The row has the start and the parts below i.
abbrev pub GatheredTo : List ℕ → (ℕ → Type 0) → (ℕ → ℕ → Type 0) → ℕ → Type 0
GatheredTo row Start Part i = RowSays row 0 (Gathered Start (Below i Part))

module _ (Start : ℕ → Type 0) (Part : ℕ → ℕ → Type 0) where
  -- Only the start, and no part before i has a member.
  pub gather_starts : (row : List ℕ) (i : ℕ) → RowSays row 0 Start → ((m v : ℕ) → m < i → Part m v → ⊥) → GatheredTo row Start Part i
  gather_starts row i alone before v = (λ h. itself ((alone v).0 h), back)
    where
      back : Gathered Start (Below i Part) v → InRow row 0 v
      back (itself e) = (alone v).1 e
      back (within m b) = absurd (before m v b.less b.part)

  -- Part i is joined.
  module _ (row row' : List ℕ) (i : ℕ) (so_far : GatheredTo row Start Part i) (more : RowSays row' 0 (λ v. InRow row 0 v ⊎ Part i v)) where
    wider : (v : ℕ) → Gathered Start (Below i Part) v → Gathered Start (Below (i + 1) Part) v
    wider v (itself e) = itself e
    wider v (within m b) = within m (record { less = omega (arith, b.less); part = b.part })

    narrower : (v m : ℕ) → Below (i + 1) Part m v → (m < i) ⊎ (i ≤ m) → InRow row 0 v ⊎ Part i v
    narrower v m b (inl h) = inl ((so_far v).1 (within m (record { less = h; part = b.part })))
    narrower v m b (inr h) = let e : m ≡ i = omega (arith, b.less) in inr (rw e at b.part)

    back : (v : ℕ) → Gathered Start (Below (i + 1) Part) v → InRow row 0 v ⊎ Part i v
    back v (itself e) = inl ((so_far v).1 (itself e))
    back v (within m b) = narrower v m b (less_or_not m i)

    pub gather_one : GatheredTo row' Start Part (i + 1)
    gather_one v = (
      λ h. ⊎_elim (λ n. wider v ((so_far v).0 n)) (λ p. within i (record { less = omega arith; part = p })) ((more v).0 h),
      λ h. (more v).1 (back v h),
    )

  -- Parts without a member are passed over.
  module _ (row : List ℕ) (i j : ℕ) (so_far : GatheredTo row Start Part i) (on : i ≤ j) (none : (m v : ℕ) → i ≤ m → m < j → Part m v → ⊥) where
    further : (v : ℕ) → Gathered Start (Below i Part) v → Gathered Start (Below j Part) v
    further v (itself e) = itself e
    further v (within m b) = within m (record { less = omega (arith, b.less); part = b.part })

    kept : (v m : ℕ) → Below j Part m v → (m < i) ⊎ (i ≤ m) → Gathered Start (Below i Part) v
    kept v m b (inl h) = within m (record { less = h; part = b.part })
    kept v m b (inr h) = absurd (none m v h b.less b.part)

    nearer : (v : ℕ) → Gathered Start (Below j Part) v → Gathered Start (Below i Part) v
    nearer v (itself e) = itself e
    nearer v (within m b) = kept v m b (less_or_not m i)

    pub gather_skip : GatheredTo row Start Part j
    gather_skip v = (λ h. further v ((so_far v).0 h), λ h. (so_far v).1 (nearer v h))

  -- Every part is below i.
  pub gather_ends : (row : List ℕ) (i : ℕ) → ((m v : ℕ) → Part m v → m < i) → GatheredTo row Start Part i → RowSays row 0 (Gathered Start Part)
  gather_ends row i all so_far v = (λ h. some ((so_far v).0 h), λ h. (so_far v).1 (bounded h))
    where
      some : Gathered Start (Below i Part) v → Gathered Start Part v
      some (itself e) = itself e
      some (within m b) = within m b.part

      bounded : Gathered Start Part v → Gathered Start (Below i Part) v
      bounded (itself e) = itself e
      bounded (within m p) = within m (record { less = all m v p; part = p })

-- What is joined to a row, said in another way.
pub part_says :
    {A B C : ℕ → Type 0} (row : List ℕ) → RowSays row 0 (λ v. A v ⊎ B v) → ((v : ℕ) → B v ↔ C v) → RowSays row 0 (λ v. A v ⊎ C v)
part_says row says same v = (
  λ h. ⊎_elim inl (λ b. inr ((same v).0 b)) ((says v).0 h),
  λ h. (says v).1 (⊎_elim inl (λ c. inr ((same v).1 c)) h),
)

-- Nothing is joined.
pub none_says : {B : ℕ → Type 0} (row : List ℕ) → ((v : ℕ) → B v → ⊥) → RowSays row 0 (λ v. InRow row 0 v ⊎ B v)
none_says row none v = (λ h. inl h, ⊎_elim (λ h. h) (λ b. absurd (none v b)))

-- One member alone.
pub alone_says :
    {u w : ℕ} (none row : List ℕ) → u ≡ w → RowSays none 0 (λ v. ⊥) → RowSays row 0 (λ v. InRow none 0 v ⊎ (v ≡ u)) → RowSays row 0 (λ v. v ≡ w)
alone_says none row e empty put v = (λ h. ⊎_elim (λ n. absurd ((empty v).0 n)) (λ m. m ∙ e) ((put v).0 h), λ h. (put v).1 (inr (h ∙ sym e)))

-- The start and the parts, said in another way.
module _ {A B : ℕ → Type 0} {P Q : ℕ → ℕ → Type 0} (start : (v : ℕ) → A v ↔ B v) (part : (m v : ℕ) → P m v ↔ Q m v) (v : ℕ) where
  forth : Gathered A P v → Gathered B Q v
  forth (itself a) = itself ((start v).0 a)
  forth (within m p) = within m ((part m v).0 p)

  rear : Gathered B Q v → Gathered A P v
  rear (itself b) = itself ((start v).1 b)
  rear (within m q) = within m ((part m v).1 q)

  pub gathered_iff : Gathered A P v ↔ Gathered B Q v
  gathered_iff = (forth, rear)
