-- Whatever is rendered as `listing` defines it keeps the promises.
use Prim.Native.Nat.{ℕ, ◌≤◌}
use native.Mathlib.Omega.{arith}
use mathlib.Core.Path.{◌≡◌, refl}
use mathlib.Core.List.{List}
use lib.ListN.{length}
use Rattle.format.specs.Records.{Bytes}
use Rattle.answer.specs.Answers.{LineAnswer}
use Rattle.listing.specs.Listing.{listing, Renders, Rendered}
use Rattle.listing.specs.ListingDemands.{ListingPromised}
use Rattle.std.specs.Prelude.{Ok, Err}
use Rattle.listing.proofs.Answers.{answer_listed}
use Rattle.listing.proofs.Longest.{answer_short}

-- A text for which there is room is written.
room_written : (text before after : Bytes) (rendered : Rendered) → Renders text before rendered after → length text ≤ length before → (bytes : ℕ) × (rendered ≡ Ok bytes)
room_written text before after (Ok bytes) r room = (bytes, refl)
room_written text before after (Err short) r room = absurd (omega (arith, r.1))

pub listing_promised : (book line : Bytes) (answer : LineAnswer) (buffer : List ℕ) {before : Bytes} {rendered : Rendered} {after : Bytes}
    → Renders (listing book line answer buffer) before rendered after → ListingPromised book line answer buffer before rendered after
listing_promised book line answer buffer {before} {rendered} {after} r =
    record {
      reading = λ lent n e p. (_, answer_listed book line lent buffer n p, rw e at r);
      enough = λ lent n e p room. room_written _ before after rendered (rw e at r) (omega (arith, answer_short book line lent buffer n p));
      refusal = λ number value e. rw e at r;
    }
