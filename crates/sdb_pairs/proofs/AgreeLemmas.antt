-- Accounts that agree at each place are the same.
use Rattle.std.proofs.Common.{◌≡◌, ℕ, List, [], Option, Some, None, refl, sym, ap, true≢false, is_some, IfSome, unwrap_or}
use Rattle.std.specs.BTreeMap.{is_at}
use Rattle.std.proofs.lemmas.Cmp.{nat_list_cmp_total}
use Rattle.std.proofs.lemmas.Map.Lookups.{exact_bytes}
use Rattle.std.proofs.lemmas.Map.Views.{IfSome-lookup_from_All}
use Rattle.sdb_base.specs.Texts.{text_cmp}
use Rattle.sdb_pairs.specs.declared.pair.Pair.{Pair}
use Rattle.sdb_pairs.specs.Accounts.{ItemEntries, DomainEntries, domain_cmp, pairs_at, IsItem, AreItems, AreAccounts}
use Rattle.sdb_base.specs.Entries.{found}
use Rattle.sdb_pairs.specs.Laws.{Place, domain_at, item_at, AgreesAt}
use Rattle.sdb_base.proofs.EntryLemmas.{same_entries}
use Rattle.sdb_pairs.proofs.StateLemmas.{domain_total, domain_exact}

-- an item that is there shows pairs, so none is there where none are shown
same_item : (a b : Option (List Pair)) → IfSome a IsItem → IfSome b IsItem → unwrap_or a [] ≡ unwrap_or b [] → a ≡ b
same_item None None h k e = refl
same_item None (Some ps) h k e = absurd (k.some (sym e))
same_item (Some ps) None h k e = absurd (h.some e)
same_item (Some ps) (Some qs) h k e = ap Some e

same_items : (one other : ItemEntries) → AreItems one → AreItems other → ((name : List ℕ) → pairs_at one name ≡ pairs_at other name) → one ≡ other
same_items one other h k same =
    same_entries nat_list_cmp_total exact_bytes one other h.rising k.rising (λ q.
    same_item (found text_cmp one q) (found text_cmp other q) (IfSome-lookup_from_All IsItem (is_at (text_cmp q)) one h.each) (IfSome-lookup_from_All IsItem (is_at (text_cmp q)) other k.each) (same q))

same_domain : (a b : Option ItemEntries) → IfSome a AreItems → IfSome b AreItems → is_some a ≡ is_some b → ((name : List ℕ) → pairs_at (unwrap_or a []) name ≡ pairs_at (unwrap_or b []) name) → a ≡ b
same_domain None None h k there same = refl
same_domain None (Some items) h k there same = absurd (true≢false (sym there))
same_domain (Some items) None h k there same = absurd (true≢false there)
same_domain (Some items) (Some more) h k there same = ap Some (same_items items more h k same)

pub places_tell_all : (one other : DomainEntries) → AreAccounts one → AreAccounts other → ((place : Place) → AgreesAt place one other) → one ≡ other
places_tell_all one other h k same =
    same_entries domain_total domain_exact one other h.rising k.rising (λ q.
    same_domain (found domain_cmp one q) (found domain_cmp other q) (IfSome-lookup_from_All AreItems (is_at (domain_cmp q)) one h.each) (IfSome-lookup_from_All AreItems (is_at (domain_cmp q)) other k.each)
    (same (domain_at q.0 q.1)) (λ name. same (item_at q.0 q.1 name)))
