-- The order of the code's places is that of their spots.
use Rattle.std.proofs.Common.{◌≡◌, List, ℕ, Bor, refl}
use Rattle.sdb_page.specs.contracts.place.PlaceOrd.TheImpl.{cmp-value}
use Rattle.sdb_page.specs.Spots.{spot_cmp}
use Rattle.sdb_page.specs.Seen.{seen_place}
use Rattle.sdb_page.specs.declared.place.Rank.{Rank}
use Rattle.sdb_page.specs.declared.place.Rank.TheVariants.{Rising, Falling}
use Rattle.sdb_page.proofs.SeenLemmas.{IsSeen}

by_ranks : (a b : Rank) (x y : Bor (List ℕ)) → cmp-value.it (record { key = a; name = x }) (record { key = b; name = y }) ≡ spot_cmp (seen_place (record { key = a; name = x })) (seen_place (record { key = b; name = y }))
by_ranks (Rising k) (Rising l) x y = refl
by_ranks (Rising k) (Falling l) x y = refl
by_ranks (Falling k) (Rising l) x y = refl
by_ranks (Falling k) (Falling l) x y = refl

pub places_seen : IsSeen cmp-value.it
places_seen = record { same = λ a b. by_ranks a.key b.key a.name b.name }
