-- The order on simple types, which an order step follows, and how it meets contractions and expansions. Odd exponents turn the order
-- round, and the parity turns with each exponent: every law below is one or two uses of transitivity.
use mathlib.Core.Path.{◌≡◌, sym, ap, ◌∙◌}
use mathlib.Core.Bool.{Bool, true, false, not}
use lib.IntN.{ℤ, suc_ℤ}
use Rattle.pregroup.specs.Types.{Basic, Simple, even}
use Rattle.pregroup.specs.Order.{Relation, IsOrder, Turned, Fits}
use Rattle.pregroup.specs.Vanish.{Contracts}
use Rattle.pregroup.proofs.Exponents.{even_suc, suc_injective, not_own_second}

-- x becomes y by an order step: the same exponent, and it fits.
pub record Below (Le : Relation) (x y : Simple) : Type 0 where
  pub same : x.exponent ≡ y.exponent
  pub fits : Fits Le x.exponent x.base y.base

-- x and y, in this order, could appear by an expansion: they are a^(z+1) and b^(z), and it fits.
pub record Expands (Le : Relation) (x y : Simple) : Type 0 where
  pub raised : x.exponent ≡ suc_ℤ y.exponent
  pub fits : Fits Le y.exponent x.base y.base

-- One exponent up, the relation is turned round.
turned : (Le : Relation) (t : Bool) (a b : Basic) → Turned Le t a b → Turned Le (not t) b a
turned Le true a b h = h
turned Le false a b h = h

turned_back : (Le : Relation) (t : Bool) (a b : Basic) → Turned Le (not t) a b → Turned Le t b a
turned_back Le true a b h = h
turned_back Le false a b h = h

pub fits_suc : (Le : Relation) (z : ℤ) (a b : Basic) → Fits Le z a b → Fits Le (suc_ℤ z) b a
fits_suc Le z a b h = rw even_suc (turned Le (even z) a b h)

pub fits_pred : (Le : Relation) (z : ℤ) (a b : Basic) → Fits Le (suc_ℤ z) a b → Fits Le z b a
fits_pred Le z a b h = turned_back Le (even z) a b (rw even_suc at h)

-- Two exponents that are the same fit alike.
fits_at : (Le : Relation) {y z : ℤ} (a b : Basic) → y ≡ z → Fits Le y a b → Fits Le z a b
fits_at Le a b e h = rw e at h

module _ {Declared : Basic → Type 0} {Le : Relation} (order : IsOrder Declared Le) where
  turned_refl : (t : Bool) (a : Basic) → Declared a → Turned Le t a a
  turned_refl true a d = order.reflexive a d
  turned_refl false a d = order.reflexive a d

  turned_trans : (t : Bool) (a b c : Basic) → Turned Le t a b → Turned Le t b c → Turned Le t a c
  turned_trans true a b c h k = order.transitive a b c h k
  turned_trans false a b c h k = order.transitive c b a k h

  pub fits_refl : (z : ℤ) (a : Basic) → Declared a → Fits Le z a a
  fits_refl z a d = turned_refl (even z) a d

  pub fits_trans : (z : ℤ) (a b c : Basic) → Fits Le z a b → Fits Le z b c → Fits Le z a c
  fits_trans z a b c h k = turned_trans (even z) a b c h k

  -- The earlier end of a link may be lowered.
  pub contracts_lower_first : {x x' y : Simple} → Below Le x' x → Contracts Le x y → Contracts Le x' y
  contracts_lower_first {x} {x'} {y} b c =
      record {
        raised = c.raised ∙ ap suc_ℤ (sym b.same);
        fits = fits_trans x'.exponent x'.base x.base y.base b.fits (fits_at Le x.base y.base (sym b.same) c.fits);
      }

  -- The later end of a link may be lowered.
  pub contracts_lower_last : {x y y' : Simple} → Below Le y' y → Contracts Le x y → Contracts Le x y'
  contracts_lower_last {x} {y} {y'} b c =
      let up : y'.exponent ≡ suc_ℤ x.exponent = b.same ∙ c.raised in
      let k : Fits Le x.exponent y.base y'.base =
      fits_pred Le x.exponent y'.base y.base (fits_at Le y'.base y.base up b.fits) in
      record { raised = up; fits = fits_trans x.exponent x.base y.base y'.base c.fits k }

  -- Where x y could appear by an expansion and s could contract with x, s stands below y.
  pub closed_first : {s x y : Simple} → Expands Le x y → Contracts Le s x → Below Le s y
  closed_first {s} {x} {y} e c =
      let same : s.exponent ≡ y.exponent = suc_injective s.exponent y.exponent (sym c.raised ∙ e.raised) in
      record {
        same = same;
        fits = fits_trans s.exponent s.base x.base y.base c.fits (fits_at Le x.base y.base (sym same) e.fits);
      }

  -- Where x y could appear by an expansion and y could contract with t, t stands below x.
  pub closed_last : {x y t : Simple} → Expands Le x y → Contracts Le y t → Below Le t x
  closed_last {x} {y} {t} e c =
      let h : Fits Le y.exponent x.base t.base = fits_trans y.exponent x.base y.base t.base e.fits c.fits in
      record {
        same = c.raised ∙ sym e.raised;
        fits = fits_at Le t.base x.base (sym c.raised) (fits_suc Le y.exponent x.base t.base h);
      }

-- What could appear by an expansion could not contract.
pub expands_apart : {Le : Relation} {x y : Simple} → Expands Le x y → Contracts Le x y → ⊥
expands_apart {Le} {x} {y} e c = not_own_second y.exponent (c.raised ∙ ap suc_ℤ e.raised)
