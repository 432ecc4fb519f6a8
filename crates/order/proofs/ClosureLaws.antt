-- The closure is an order over the declared types, and goes along with the relation that it closes.
use Prim.Native.Nat.{ℕ, ◌<◌}
use mathlib.Core.Logic.Iff
use mathlib.Core.Logic.{◌↔◌}
use mathlib.Core.List.{List}
use Rattle.pregroup.specs.Order.{Relation, IsOrder}
use Rattle.pregroup.specs.Held.{InRows}
use Rattle.order.specs.Rows.{Hold}
use Rattle.order.specs.Closed.{Closed, reflexive, pair, transitive, Within}

-- What R relates, S relates: the closures too.
pub closed_map : {types : ℕ} {R S : Relation} → ((p q : ℕ) → R p q → S p q) → {p q : ℕ} → Closed types R p q → Closed types S p q
closed_map f (reflexive h) = reflexive h
closed_map f (pair {p} {q} r) = pair (f p q r)
closed_map f (transitive c d) = transitive (closed_map f c) (closed_map f d)

pub closed_iff :
    {types : ℕ} {R S : Relation} → ((p q : ℕ) → R p q ↔ S p q) → (p q : ℕ) → Closed types R p q ↔ Closed types S p q
closed_iff same p q = (closed_map (λ p q. (same p q).0), closed_map (λ p q. (same p q).1))

-- Rows that hold the closure of rows that hold R hold the closure of R.
pub hold_closed :
    {types : ℕ} {R : Relation} (direct rows : List ℕ) → Hold direct R → Hold rows (Closed types (InRows direct)) → Hold rows (Closed types R)
hold_closed direct rows before after p q = Iff.trans (after p q) (closed_iff before p q)

-- The closure relates declared types only, if R does.
pub closed_within : {types : ℕ} {R : Relation} → Within types R → Within types (Closed types R)
closed_within within p q (reflexive h) = (h, h)
closed_within within p q (pair r) = within p q r
closed_within within p q (transitive {q = m} c d) = ((closed_within within p m c).0, (closed_within within m q d).1)

pub closed_is_order : {types : ℕ} {R : Relation} → Within types R → IsOrder (λ a. a < types) (Closed types R)
closed_is_order within = record {
  reflexive = λ a h. reflexive h;
  transitive = λ a b c x y. transitive x y;
  lower = λ a b c. (closed_within within a b c).0;
  upper = λ a b c. (closed_within within a b c).1;
}

-- From a declared type, the closure is the same whatever number of types it is taken over.
pub closed_among :
    {n types : ℕ} {R : Relation} → Within types R → {p q : ℕ} → p < types → Closed n R p q → Closed types R p q
closed_among within h (reflexive l) = reflexive h
closed_among within h (pair r) = pair r
closed_among within h (transitive {p} {q = m} c d) =
    let first = closed_among within h c in
    transitive first (closed_among within (closed_within within p m first).1 d)
