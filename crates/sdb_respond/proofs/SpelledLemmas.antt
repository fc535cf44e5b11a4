-- How many bytes the changes of one request have, spelled.
use Rattle.std.proofs.Common.{◌≡◌, ℕ, ◌+◌, ◌*◌, ◌≤◌, List, [], ◌∷◌, ◌++◌, map, length, All, arith, length-append}
use Rattle.std.specs.List.{flat_map}
use Rattle.std.proofs.lemmas.Bool.{and_parts, leb-true}
use Rattle.std.proofs.lemmas.List.Elements.{All-nil, All-cons, All-head, All-tail, All-map, All-weaker}
use Rattle.sdb_base.specs.Names.{IsDomainName, IsName, IsValue}
use Rattle.sdb_format.specs.Letters.{text_bytes}
use Rattle.sdb_format.specs.Numbers.{be16, be32}
use Rattle.sdb_action.specs.declared.request.DropItem.{DropItem}
use Rattle.sdb_action.specs.declared.request.PutItem.{PutItem}
use Rattle.sdb_action.specs.declared.request.Request.{Request}
use Rattle.sdb_action.specs.declared.request.Request.TheVariants.{CreateDomain, DeleteDomain, ListDomains, DomainMetadata, Put, BatchPut, Get, Delete, BatchDelete, Select}
use Rattle.sdb_action.specs.Lawful.{IsLawfulPutItem, IsLawfulDropItem, IsLawfulRequest}
use Rattle.sdb_pairs.specs.declared.change.Change.{Change}
use Rattle.sdb_pairs.specs.declared.change.Change.TheVariants.{MakeDomain, DropDomain, Edit}
use Rattle.sdb_pairs.specs.declared.op.Op.{Op}
use Rattle.sdb_pairs.specs.declared.op.Op.TheVariants.{AddPair, DropPair, DropName, DropAll}
use Rattle.sdb_pairs.specs.declared.pair.Pair.{Pair}
use Rattle.sdb_pairs.specs.Laws.{part_op, del_ops}
use Rattle.sdb_pairs.specs.Lawful.{IsLawfulPair, IsLawfulOp, IsLawfulEdit}
use Rattle.sdb_pairs.specs.Pairs.{Part}
use Rattle.sdb_record.specs.Spelling.{change_bytes, op_bytes, ops_bytes, pair_bytes, place_bytes, spelling}
use Rattle.sdb_write.specs.Changes.{changes, edit_of, ops_of}
use Rattle.sdb_write.specs.ItemWrites.{ItemWrite, put_of, part_of, put_write, drop_write}
use Rattle.sdb_write.proofs.LawfulLemmas.{drop_edit_lawful, length-put_ops, length-replaced, mapped, put_edit_lawful}

-- ---- texts

name_bytes : (name : List ℕ) → IsName name → length name ≤ 1024
name_bytes name lawful = leb-true _ _ (and_parts _ _ (and_parts _ _ lawful).0).1

value_bytes : (value : List ℕ) → IsValue value → length value ≤ 1024
value_bytes value lawful = leb-true _ _ (and_parts _ _ lawful).0

domain_name_bytes : (name : List ℕ) → IsDomainName name → length name ≤ 255
domain_name_bytes name lawful = leb-true _ _ (and_parts _ _ (and_parts _ _ lawful).0).1

text_length : (text : List ℕ) → length (text_bytes text) ≡ 2 + length text
text_length text = length-append (be16 (length text)) text

-- ---- operations and changes

pair_short : (p : Pair) → IsLawfulPair p → length (pair_bytes p) ≤ 2052
pair_short p lawful =
    omega (arith, length-append (text_bytes p.name) (text_bytes p.value), text_length p.name, text_length p.value, name_bytes p.name lawful.name_lawful, value_bytes p.value lawful.value_lawful)

op_short : (op : Op) → IsLawfulOp op → length (op_bytes op) ≤ 2053
op_short (AddPair p) lawful = omega (arith, pair_short p lawful)
op_short (DropPair p) lawful = omega (arith, pair_short p lawful)
op_short (DropName name) lawful = omega (arith, text_length name, name_bytes name lawful)
op_short DropAll lawful = omega arith

-- pieces that are each short
module _ {X : Type 0} (f : X → List ℕ) (Fits : X → Type 0) (most : ℕ) (short : (x : X) → Fits x → length (f x) ≤ most) where
  all_short : (xs : List X) → All Fits xs → length (flat_map f xs) ≤ most * length xs
  all_short [] h = omega arith
  all_short (x ∷ xs) h =
      let one = short x (All-head Fits x xs h) in
      let rest = all_short xs (All-tail Fits x xs h) in
      omega (arith, length-append (f x) (flat_map f xs), one, rest)

-- a change of at most 512 operations
record IsShortChange (c : Change) : Type 0 where
  bytes : length (change_bytes c) ≤ 1052500

place_short : (account : ℕ) (domain : List ℕ) → IsDomainName domain → length (place_bytes account domain) ≤ 257
place_short account domain lawful = omega (arith, domain_name_bytes domain lawful)

edit_short : (account : ℕ) (domain item : List ℕ) (ops : List Op) → IsDomainName domain → IsLawfulEdit item ops → length ops ≤ 512 → IsShortChange (Edit account domain item ops)
edit_short account domain item ops named lawful few =
    let body = text_bytes item ++ ops_bytes ops in
    let operations = all_short op_bytes IsLawfulOp 2053 op_short ops lawful.each in
    record {
      bytes = omega (
        arith,
        place_short account domain named,
        length-append (place_bytes account domain) body,
        length-append (text_bytes item) (ops_bytes ops),
        text_length item,
        name_bytes item lawful.item_lawful,
        length-append (be16 (length ops)) (flat_map op_bytes ops),
        operations,
        few,
      );
    }

-- ---- the operations of requests

put_few : (item : PutItem) → IsLawfulPutItem item → length (ops_of (put_write item)) ≤ 512
put_few item lawful = omega (arith, length-put_ops (map put_of item.pairs), length-replaced (map put_of item.pairs), mapped put_of item.pairs, lawful.few)

drop_few : (item : DropItem) → IsLawfulDropItem item → length (ops_of (drop_write item)) ≤ 512
drop_few item lawful = at (map part_of item.parts) (omega (arith, mapped part_of item.parts, lawful.few))
  where
    at : (parts : List Part) → length parts ≤ 256 → length (del_ops parts) ≤ 512
    at [] few = omega arith
    at (part ∷ parts) few = omega (arith, mapped part_op (part ∷ parts), few)

-- ---- changes

-- how many bytes short changes have
few_spelled : (cs : List Change) → length cs ≤ 25 → All IsShortChange cs → length (spelling cs) ≤ 33554432
few_spelled cs few h =
    omega (arith, length-append (be32 (length cs)) (flat_map change_bytes cs), all_short change_bytes IsShortChange 1052500 (λ c short. short.bytes) cs h, few)

-- an edit of a lawful item of a request
module _ {A : Type 0} (account : ℕ) (domain : List ℕ) (named : IsDomainName domain) (write : A → ItemWrite) (IsLawfulOne : A → Type 0)
    (short_one : (x : A) → IsLawfulOne x → IsShortChange (edit_of account domain (write x))) where
  edits_short : (items : List A) → All IsLawfulOne items → All IsShortChange (map (edit_of account domain) (map write items))
  edits_short items h =
      All-map IsShortChange (edit_of account domain) (map write items)
      (All-map (λ w. IsShortChange (edit_of account domain w)) write items (All-weaker IsLawfulOne (λ x. IsShortChange (edit_of account domain (write x))) short_one items h))

put_short : (account : ℕ) (domain : List ℕ) → IsDomainName domain → (item : PutItem) → IsLawfulPutItem item → IsShortChange (edit_of account domain (put_write item))
put_short account domain named item lawful = edit_short account domain item.name (ops_of (put_write item)) named (put_edit_lawful item lawful) (put_few item lawful)

drop_short : (account : ℕ) (domain : List ℕ) → IsDomainName domain → (item : DropItem) → IsLawfulDropItem item → IsShortChange (edit_of account domain (drop_write item))
drop_short account domain named item lawful = edit_short account domain item.name (ops_of (drop_write item)) named (drop_edit_lawful item lawful) (drop_few item lawful)

one_spelled : (c : Change) → IsShortChange c → length (spelling (c ∷ [])) ≤ 33554432
one_spelled c short = few_spelled (c ∷ []) (omega arith) (All-cons IsShortChange c [] short (All-nil IsShortChange))

-- the changes of a request within its limits
pub changes_spelled : (account : ℕ) (request : Request) → IsLawfulRequest request → length (spelling (changes account request)) ≤ 33554432
changes_spelled account (CreateDomain domain) lawful = one_spelled (MakeDomain account domain) (record { bytes = omega (arith, place_short account domain lawful) })
changes_spelled account (DeleteDomain domain) lawful = one_spelled (DropDomain account domain) (record { bytes = omega (arith, place_short account domain lawful) })
changes_spelled account (Put domain item expect) lawful = one_spelled (edit_of account domain (put_write item)) (put_short account domain lawful.0 item lawful.1)
changes_spelled account (BatchPut domain items) lawful =
    few_spelled (map (edit_of account domain) (map put_write items)) (omega (arith, mapped (edit_of account domain) (map put_write items), mapped put_write items, lawful.1.few))
    (edits_short account domain lawful.0 put_write IsLawfulPutItem (put_short account domain lawful.0) items lawful.1.each)
changes_spelled account (Delete domain item expect) lawful = one_spelled (edit_of account domain (drop_write item)) (drop_short account domain lawful.0 item lawful.1)
changes_spelled account (BatchDelete domain items) lawful =
    few_spelled (map (edit_of account domain) (map drop_write items)) (omega (arith, mapped (edit_of account domain) (map drop_write items), mapped drop_write items, lawful.1.few))
    (edits_short account domain lawful.0 drop_write IsLawfulDropItem (drop_short account domain lawful.0) items lawful.1.each)
changes_spelled account (ListDomains most token) lawful = omega arith
changes_spelled account (DomainMetadata domain) lawful = omega arith
changes_spelled account (Get domain item names) lawful = omega arith
changes_spelled account (Select expression token) lawful = omega arith
