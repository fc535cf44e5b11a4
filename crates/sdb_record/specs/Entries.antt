-- How the bytes of changes are read.
use Rattle.std.specs.Prelude.{◌≡◌, ℕ, zero, suc, ◌<◌, ◌≤◌, ◌^◌, List, length, All, Result, Ok, Err, IfErr}
use Rattle.sdb_base.specs.Names.{is_domain_char}
use Rattle.sdb_format.specs.declared.fault.FormatFault.TheVariants.{Short as ends_early, Bad as is_wrong}
use Rattle.sdb_format.specs.Readers.{Reading, Reader, then_at, seen_at, times_at, second}
use Rattle.sdb_format.specs.Numbers.{byte_in, u16_in, u32_at}
use Rattle.sdb_format.specs.Letters.{text_in, passing_at}
use Rattle.sdb_pairs.specs.declared.pair.Pair.{Pair}
use Rattle.sdb_pairs.specs.declared.op.Op.{Op}
use Rattle.sdb_pairs.specs.declared.op.Op.TheVariants.{AddPair, DropPair, DropName, DropAll}
use Rattle.sdb_pairs.specs.declared.change.Change.{Change}
use Rattle.sdb_pairs.specs.declared.change.Change.TheVariants.{MakeDomain, DropDomain, Edit}
use Rattle.sdb_pairs.specs.Lawful.{IsLawfulOp}
use Rattle.sdb_record.specs.declared.fault.RecordFault.{RecordFault}
use Rattle.sdb_record.specs.declared.fault.RecordFault.TheVariants.{Short, Bad}

-- what a fault says of the reading of the bytes
abbrev pub OnFault : {A T : Type 0} → Result T RecordFault → Reading A → Type 0
OnFault result reading = IfErr result (λ fault. (fault ≡ Short → reading ≡ Err ends_early) × (fault ≡ Bad → reading ≡ Err is_wrong))

-- a domain's name behind its length
abbrev pub domain_at : Reader (List ℕ)
domain_at = seen_at second (then_at (byte_in 3 255) (passing_at is_domain_char))

-- an account's number and a domain's name
abbrev pub place_at : Reader (ℕ × List ℕ)
place_at = then_at (byte_in 1 16) (λ account. domain_at)

-- a name behind its length
abbrev pub name_at : Reader (List ℕ)
name_at = text_in 1 1024

-- a value behind its length
abbrev pub value_at : Reader (List ℕ)
value_at = text_in 0 1024

-- the pair of a name and a value
abbrev pub pair_of : List ℕ × List ℕ → Pair
pair_of x = record { name = x.0; value = x.1 }

-- a name and a value
abbrev pub pair_at : Reader Pair
pair_at = seen_at pair_of (then_at name_at (λ name. value_at))

-- a value that takes no bytes
abbrev pub done_at : {A : Type 0} → A → Reader A
done_at x bytes = Ok (x, bytes)

-- an operation after its tag
abbrev pub op_after : ℕ → Reader Op
op_after zero = seen_at AddPair pair_at
op_after (suc zero) = seen_at DropPair pair_at
op_after (suc (suc zero)) = seen_at DropName name_at
op_after (suc (suc (suc n))) = done_at DropAll

-- one operation
abbrev pub op_at : Reader Op
op_at = seen_at second (then_at (byte_in 0 3) op_after)

-- operations behind their number
abbrev pub ops_at : Reader (List Op)
ops_at = seen_at second (then_at (u16_in 1 65535) (λ count. times_at count op_at))

-- 1 to 65,535 lawful operations
pub record AreOps (ops : List Op) : Type 0 where
  pub some : 1 ≤ length ops
  pub few : length ops < 2 ^ 16
  pub each : All IsLawfulOp ops

-- the change that makes a domain
abbrev pub make_of : ℕ × List ℕ → Change
make_of x = MakeDomain x.0 x.1

-- the change that drops a domain
abbrev pub drop_of : ℕ × List ℕ → Change
drop_of x = DropDomain x.0 x.1

-- the change that edits an item
abbrev pub edit_of : (ℕ × List ℕ) × (List ℕ × List Op) → Change
edit_of x = Edit x.0.0 x.0.1 x.1.0 x.1.1

-- a change after its tag
abbrev pub change_after : ℕ → Reader Change
change_after zero = seen_at make_of place_at
change_after (suc zero) = seen_at drop_of place_at
change_after (suc (suc n)) = seen_at edit_of (then_at place_at (λ place. then_at name_at (λ item. ops_at)))

-- one change
abbrev pub change_at : Reader Change
change_at = seen_at second (then_at (byte_in 0 2) change_after)

-- changes behind their number
abbrev pub changes_at : Reader (List Change)
changes_at = seen_at second (then_at u32_at (λ count. times_at count change_at))
