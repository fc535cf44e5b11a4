use Rattle.std.proofs.Common.{◌≡◌, ◌+◌, ℕ, List, length, false}
use Rattle.sdb_base.specs.Texts.{text_cmp}
use Rattle.sdb_base.specs.Entries.{found}
use Rattle.sdb_domain.specs.Keyed.{unwound}
use Rattle.sdb_domain.specs.Names.{name_undone, is_logged}
use Rattle.sdb_domain.proofs.NameLemmas.{Walks}
use Rattle.sdb_domain.proofs.names.count_apart.Given as goal

abbrev pub invariant-loop-side : goal.invariant-loop-side
invariant-loop-side l = record {
  walks : Walks l.old l.new l.initial.names l.names l.old_rest l.new_rest;
  logged : (name : List ℕ) → is_logged name l.log.items ≡ false → found text_cmp l.names.counts name ≡ found text_cmp l.initial.names.counts name;
  back : unwound name_undone l.names l.log.items ≡ unwound name_undone l.initial.names l.initial.log.items;
}

abbrev pub decreases-loop-side : goal.decreases-loop-side
decreases-loop-side l = length l.old_rest + length l.new_rest
