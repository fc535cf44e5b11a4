-- What lawful requests come to is lawful, and lawful accounts stay lawful.
use Rattle.std.proofs.Common.{◌≡◌, ℕ, ◌+◌, ◌≤◌, Bool, true, false, cond, not, List, [], ◌∷◌, map, filter, length, Option, Some, None, IfSome, All, refl, sym, subst, arith, length-append}
use Rattle.std.specs.List.{IsDistinct}
use Rattle.std.specs.Str.{bytes_eq}
use Rattle.std.proofs.lemmas.List.{length-map}
use Rattle.std.proofs.lemmas.List.Elements.{All-nil, All-cons, All-head, All-tail, All-map, All-append, All-filter, All-weaker}
use Rattle.sdb_base.specs.Names.{IsName, IsValue}
use Rattle.sdb_action.specs.declared.request.DropItem.{DropItem}
use Rattle.sdb_action.specs.declared.request.DropPart.{DropPart}
use Rattle.sdb_action.specs.declared.request.PutItem.{PutItem}
use Rattle.sdb_action.specs.declared.request.PutPair.{PutPair}
use Rattle.sdb_action.specs.declared.request.Request.{Request}
use Rattle.sdb_action.specs.declared.request.Request.TheVariants.{CreateDomain, DeleteDomain, ListDomains, DomainMetadata, Put, BatchPut, Get, Delete, BatchDelete, Select}
use Rattle.sdb_action.specs.Lawful.{IsLawfulPutPair, IsLawfulDropPart, IsLawfulPutItem, IsLawfulDropItem, IsLawfulRequest}
use Rattle.sdb_pairs.specs.declared.change.Change.{Change}
use Rattle.sdb_pairs.specs.declared.change.Change.TheVariants.{MakeDomain, DropDomain}
use Rattle.sdb_pairs.specs.declared.op.Op.TheVariants.{AddPair, DropName, DropAll}
use Rattle.sdb_pairs.specs.Lawful.{IsAccount, IsDomainKey, IsLawfulPair, IsLawfulOp, IsLawfulEdit, IsLawfulChange, AreLawfulChanges}
use Rattle.sdb_pairs.specs.Laws.{part_op, del_ops}
use Rattle.sdb_pairs.specs.Pairs.{Put as PairPut, Part, whole_name, one_pair}
use Rattle.sdb_write.specs.Changes.{each_once, replaced_names, put_ops, ops_of, edit_of, changes}
use Rattle.sdb_write.specs.ItemWrites.{ItemWrite, put_of, part_with, part_of, put_write, drop_write, name_of}
use Rattle.sdb_write.specs.Writes.{IsWrite, NamesOnce}

-- ---- the names of a batch

module _ {A : Type 0} (write : A → ItemWrite) (name : A → List ℕ) (named : (x : A) → name_of (write x) ≡ name x) where
  names_are : (items : List A) → map name_of (map write items) ≡ map name items
  names_are [] = refl
  names_are (x ∷ xs) = λ i. named x i ∷ names_are xs i

-- a lawful batch names each item once
pub lawful-once : (request : Request) → IsLawfulRequest request → NamesOnce request
lawful-once (BatchPut domain items) lawful = subst (λ names. IsDistinct bytes_eq names) (sym (names_are put_write (λ item. item.name) (λ item. refl) items)) lawful.1.apart
lawful-once (BatchDelete domain items) lawful = subst (λ names. IsDistinct bytes_eq names) (sym (names_are drop_write (λ item. item.name) (λ item. refl) items)) lawful.1.apart
lawful-once (CreateDomain domain) lawful = tt
lawful-once (DeleteDomain domain) lawful = tt
lawful-once (ListDomains most token) lawful = tt
lawful-once (DomainMetadata domain) lawful = tt
lawful-once (Put domain item expect) lawful = tt
lawful-once (Get domain item names) lawful = tt
lawful-once (Delete domain item expect) lawful = tt
lawful-once (Select expression token) lawful = tt

-- ---- lists

pub mapped : {A B : Type 0} (f : A → B) (xs : List A) → length (map f xs) ≡ length xs
mapped f xs = length-map xs f

pub length-kept : {X : Type 0} (test : X → Bool) (xs : List X) → length (filter test xs) ≤ length xs
length-kept test [] = omega arith
length-kept test (x ∷ xs) =
    let ih = length-kept test xs in
    elim (test x) as (λ b. length (cond b (x ∷ filter test xs) (filter test xs)) ≤ length (x ∷ xs)) [ true ↦ omega (arith, ih) | false ↦ omega (arith, ih) ]

length-once : (texts : List (List ℕ)) → length (each_once texts) ≤ length texts
length-once [] = omega arith
length-once (t ∷ ts) = omega (arith, length-once ts, length-kept (λ other. not (bytes_eq other t)) (each_once ts))

All-once : (P : List ℕ → Type 0) (texts : List (List ℕ)) → All P texts → All P (each_once texts)
All-once P [] h = h
All-once P (t ∷ ts) h = All-cons P t _ (All-head P t ts h) (All-filter (λ other. not (bytes_eq other t)) P (each_once ts) (All-once P ts (All-tail P t ts h)))

-- ---- operations

-- the pair of a put is lawful
abbrev pub IsLawfulPut : PairPut → Type 0
IsLawfulPut p = IsLawfulPair p.pair

pub puts_lawful : (pairs : List PutPair) → All IsLawfulPutPair pairs → All IsLawfulPut (map put_of pairs)
puts_lawful pairs h = All-map IsLawfulPut put_of pairs (All-weaker IsLawfulPutPair (λ p. IsLawfulPut (put_of p)) (λ p lawful. record { name_lawful = lawful.name_lawful; value_lawful = lawful.value_lawful }) pairs h)

-- the part of a deletion is lawful
abbrev IsLawfulPart : Part → Type 0
IsLawfulPart (whole_name name) = IsName name
IsLawfulPart (one_pair p) = IsLawfulPair p

part_lawful : (part : DropPart) → IsLawfulDropPart part → IsLawfulPart (part_of part)
part_lawful part lawful = at part.value lawful.value_lawful
  where
    at : (value : Option (List ℕ)) → IfSome value IsValue → IsLawfulPart (part_with part.name value)
    at None valued = lawful.name_lawful
    at (Some value) valued = record { name_lawful = lawful.name_lawful; value_lawful = valued }

parts_lawful : (parts : List DropPart) → All IsLawfulDropPart parts → All IsLawfulPart (map part_of parts)
parts_lawful parts h = All-map IsLawfulPart part_of parts (All-weaker IsLawfulDropPart (λ p. IsLawfulPart (part_of p)) part_lawful parts h)

put_ops_lawful : (puts : List PairPut) → All IsLawfulPut puts → All IsLawfulOp (put_ops puts)
put_ops_lawful puts h =
    All-append IsLawfulOp (map DropName (replaced_names puts)) (map (λ p. AddPair p.pair) puts)
    (All-map IsLawfulOp DropName (replaced_names puts)
    (All-once IsName (map (λ p. p.pair.name) (filter (λ p. p.replaces) puts))
    (All-map IsName (λ p. p.pair.name) (filter (λ p. p.replaces) puts) (All-weaker IsLawfulPut (λ p. IsName p.pair.name) (λ p lawful. lawful.name_lawful) _ (All-filter (λ p. p.replaces) IsLawfulPut puts h)))))
    (All-map IsLawfulOp (λ p. AddPair p.pair) puts h)

pub length-replaced : (puts : List PairPut) → length (replaced_names puts) ≤ length puts
length-replaced puts =
    omega (arith, length-once (map (λ p. p.pair.name) (filter (λ p. p.replaces) puts)), mapped (λ (p : PairPut). p.pair.name) (filter (λ p. p.replaces) puts), length-kept (λ (p : PairPut). p.replaces) puts)

pub length-put_ops : (puts : List PairPut) → length (put_ops puts) ≡ length (replaced_names puts) + length puts
length-put_ops puts =
    omega (arith, length-append (map DropName (replaced_names puts)) (map (λ (p : PairPut). AddPair p.pair) puts), mapped DropName (replaced_names puts), mapped (λ (p : PairPut). AddPair p.pair) puts)

pub put_edit_lawful : (item : PutItem) → IsLawfulPutItem item → IsLawfulEdit item.name (ops_of (put_write item))
put_edit_lawful item lawful =
    let puts = map put_of item.pairs in
    let count = mapped put_of item.pairs in
    record {
      item_lawful = lawful.name_lawful;
      some = omega (arith, length-put_ops puts, count, lawful.some);
      few = omega (arith, length-put_ops puts, length-replaced puts, count, lawful.few);
      each = put_ops_lawful puts (puts_lawful item.pairs lawful.each);
    }

part_op_lawful : (part : Part) → IsLawfulPart part → IsLawfulOp (part_op part)
part_op_lawful (whole_name name) h = h
part_op_lawful (one_pair p) h = h

del_edit_lawful : (name : List ℕ) (parts : List Part) → IsName name → length parts ≤ 256 → All IsLawfulPart parts → IsLawfulEdit name (del_ops parts)
del_edit_lawful name [] named few h = record { item_lawful = named; some = omega arith; few = omega arith; each = All-cons IsLawfulOp DropAll [] tt (All-nil IsLawfulOp) }
del_edit_lawful name (part ∷ parts) named few h = record {
  item_lawful = named;
  some = omega (arith, mapped part_op (part ∷ parts));
  few = omega (arith, mapped part_op (part ∷ parts), few);
  each = All-map IsLawfulOp part_op (part ∷ parts) (All-weaker IsLawfulPart (λ p. IsLawfulOp (part_op p)) part_op_lawful (part ∷ parts) h);
}

pub drop_edit_lawful : (item : DropItem) → IsLawfulDropItem item → IsLawfulEdit item.name (ops_of (drop_write item))
drop_edit_lawful item lawful = del_edit_lawful item.name (map part_of item.parts) lawful.name_lawful (omega (arith, mapped part_of item.parts, lawful.few)) (parts_lawful item.parts lawful.each)

-- ---- changes

module _ {A : Type 0} (account : ℕ) (domain : List ℕ) (key : IsDomainKey account domain) (write : A → ItemWrite) (IsLawfulOne : A → Type 0)
    (lawful_one : (x : A) → IsLawfulOne x → IsLawfulChange (edit_of account domain (write x))) where
  edits_lawful : (items : List A) → length items ≤ 25 → All IsLawfulOne items → AreLawfulChanges (map (edit_of account domain) (map write items))
  edits_lawful items few h = record {
    few = omega (arith, mapped (edit_of account domain) (map write items), mapped write items, few);
    each =
        All-map IsLawfulChange (edit_of account domain) (map write items)
        (All-map (λ w. IsLawfulChange (edit_of account domain w)) write items (All-weaker IsLawfulOne (λ x. IsLawfulChange (edit_of account domain (write x))) lawful_one items h));
  }

one_lawful : (change : Change) → IsLawfulChange change → AreLawfulChanges (change ∷ [])
one_lawful change h = record { few = omega arith; each = All-cons IsLawfulChange change [] h (All-nil IsLawfulChange) }

-- the changes of a lawful write are lawful
pub changes_lawful : (account : ℕ) (request : Request) → IsAccount account → IsWrite request → IsLawfulRequest request → AreLawfulChanges (changes account request)
changes_lawful account (CreateDomain domain) is write lawful = one_lawful (MakeDomain account domain) (record { account_lawful = is; name_lawful = lawful })
changes_lawful account (DeleteDomain domain) is write lawful = one_lawful (DropDomain account domain) (record { account_lawful = is; name_lawful = lawful })
changes_lawful account (Put domain item expect) is write lawful = one_lawful (edit_of account domain (put_write item)) (record { account_lawful = is; name_lawful = lawful.0 }, put_edit_lawful item lawful.1)
changes_lawful account (BatchPut domain items) is write lawful =
    let key : IsDomainKey account domain = record { account_lawful = is; name_lawful = lawful.0 } in
    edits_lawful account domain key put_write IsLawfulPutItem (λ item h. (key, put_edit_lawful item h)) items lawful.1.few lawful.1.each
changes_lawful account (Delete domain item expect) is write lawful = one_lawful (edit_of account domain (drop_write item)) (record { account_lawful = is; name_lawful = lawful.0 }, drop_edit_lawful item lawful.1)
changes_lawful account (BatchDelete domain items) is write lawful =
    let key : IsDomainKey account domain = record { account_lawful = is; name_lawful = lawful.0 } in
    edits_lawful account domain key drop_write IsLawfulDropItem (λ item h. (key, drop_edit_lawful item h)) items lawful.1.few lawful.1.each
changes_lawful account _ is write lawful = absurd write
