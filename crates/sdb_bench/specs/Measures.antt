-- What a workload comes to, and what a bench writes of it.
use Rattle.std.specs.Prelude.{◌≡◌, ℕ, zero, suc, ◌+◌, ◌*◌, List, [], ◌∷◌, ◌++◌, length, map, codes, decimal}
use Rattle.std.specs.List.{sum_by}
use Rattle.std.specs.declared.option.Option.{Option}
use Rattle.std.specs.Io.KnownBytes.{Appends}
use Rattle.hex.specs.Hex.{encode_lower}
use Rattle.sha2.specs.Sha256.{sha256}
use Rattle.sdb_arrivals.specs.Story.{Done, Step}
use Rattle.sdb_core.specs.Ledgers.{Given, Opening, Plain, ledger, released, seen}
use Rattle.sdb_core.specs.Told.{AreSteps}
use Rattle.sdb_domain.specs.Weights.{domains_of, pair_count}
use Rattle.sdb_keys.specs.declared.keys.Key.{Key}
use Rattle.sdb_pairs.specs.Accounts.{DomainEntries, ItemEntries}
use Rattle.sdb_replay.specs.Endings.{AppendsFront}
use Rattle.sdb_replay.specs.Events.{happened, happening}
use Rattle.sdb_replay.specs.Shown.{shown}
use Rattle.sdb_script.specs.Workload.{happens_in}

-- ---- the beginning

-- the key by which the requests of a workload are signed
abbrev pub workload_key : Key
workload_key = record { account = 1; id = codes "BENCHKEY"; secret = codes "BENCHSECRET" }

-- a story of a core that was opened with that key, over no accounts
abbrev pub fresh : (moment : ℕ) → Opening
fresh moment = record { keys = workload_key ∷ []; accounts = []; number = 0; moment = moment }

-- ---- the numbers

-- a number of each domain, added up
abbrev pub sum_in : (ItemEntries → ℕ) → DomainEntries → ℕ
sum_in number domains = sum_by (λ domain. number domain.1) domains

-- the same of the accounts from 1 to one
abbrev pub sum_to : (ItemEntries → ℕ) → DomainEntries → ℕ → ℕ
sum_to number accounts zero = 0
sum_to number accounts (suc n) = sum_to number accounts n + sum_in number (domains_of accounts (n + 1))

-- the items of all domains; accounts have numbers from 1 to 16
abbrev pub all_items : DomainEntries → ℕ
all_items accounts = sum_to length accounts 16

-- the pairs of all domains
abbrev pub all_pairs : DomainEntries → ℕ
all_pairs accounts = sum_to pair_count accounts 16

-- ---- the lines

-- a line of a word, with the space behind it, and a number
abbrev pub number_line : List ℕ → ℕ → List ℕ
number_line word number = word ++ decimal number ++ 10 ∷ []

-- the five lines
abbrev pub five_lines : (requests answers items pairs : ℕ) → (digest : List ℕ) → List ℕ
five_lines requests answers items pairs digest =
    number_line (codes "requests ") requests ++ number_line (codes "answers ") answers ++ number_line (codes "items ") items
    ++ number_line (codes "pairs ") pairs ++ codes "sent " ++ encode_lower digest ++ 10 ∷ []

-- the five lines of a story: answers are those that were released, and the digest is that of their records
abbrev pub lines_of : (requests : ℕ) → Opening → List Step → List ℕ
lines_of requests o story =
    five_lines requests (length (released o story)) (all_items (seen o (ledger o story))) (all_pairs (seen o (ledger o story))) (sha256 (shown o story))

-- ---- the workload

-- each step was done
abbrev pub AllDone : List Step → Type 0
AllDone [] = Unit {0}
AllDone (s ∷ story) = (s.answer ≡ Done) × AllDone story

-- each answer is one that the accounts give
abbrev pub AllPlain : List Given → Type 0
AllPlain [] = Unit {0}
AllPlain (g ∷ given) = (g.mark ≡ Plain) × AllPlain given

-- how many requests the workload of a size has
abbrev pub requests_in : ℕ → ℕ
requests_in n = 4 + 100 * n

-- The text is that of a workload that was carried out whole: a story of the core over new files, whose events are those of the workload,
-- in order, each answered and executed as the core's definitions say; each was done, and no answer tells of want of memory or of a
-- fault of the disk.
pub record Measures (n : ℕ) (text : List ℕ) : Type 0 where
  pub moment : ℕ
  pub story : List Step
  pub events_are : happened story ≡ map happening (happens_in n)
  pub steps : AreSteps (fresh moment) story
  pub done : AllDone story
  pub plain : AllPlain (released (fresh moment) story)
  pub text_is : text ≡ lines_of (requests_in n) (fresh moment) story

-- such a text is written
abbrev pub Reports : ℕ → Option (List ℕ) → Option (List ℕ) → Type 0
Reports n before now = (text : List ℕ) × Measures n text × Appends before now text

-- a front of such a text is written
abbrev pub ReportsFront : ℕ → Option (List ℕ) → Option (List ℕ) → Type 0
ReportsFront n before now = (text : List ℕ) × Measures n text × AppendsFront before now text
