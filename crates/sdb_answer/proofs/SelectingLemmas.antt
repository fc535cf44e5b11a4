-- What a Select answers by what its expression is parsed as.
use Rattle.std.proofs.Common.{◌≡◌, ◌⊎◌, inl, inr, ℕ, ◌≤◌, true, cond, List, length, Option, Some, None, IfSome, is_some, Result, Ok, Err, refl, ap}
use Rattle.std.proofs.lemmas.Bool.{and_from, le-leb}
use Rattle.sdb_page.specs.Selects.{IsSmallPosition, next_of}
use Rattle.sdb_page.proofs.PositionLemmas.{next-small}
use Rattle.sdb_pairs.specs.Accounts.{ItemEntries}
use Rattle.sdb_pairs.specs.Lawful.{AreLawfulItems}
use Rattle.sdb_token.specs.declared.position.Position.{Position}
use Rattle.sdb_token.specs.Tokens.{token}
use Rattle.sdb_answer.specs.Selecting.{fits_token, key_fits, token_at}
use Rattle.sdb_parse.specs.declared.select.Select.{Select}
use Rattle.sdb_parse.specs.Computed.{parsed}
use Rattle.sdb_parse.specs.Parsed.{Parsed}
use Rattle.sdb_parse.proofs.ComputedLemmas.{parsed-is}
use Rattle.sdb_tables.specs.declared.refusal.Refusal.{Refusal}
use Rattle.sdb_tables.specs.declared.refusal.Refusal.TheVariants.{OutOfMemory}
use Rattle.sdb_tables.specs.Answers.{Answers}

-- a refusal is want of memory or another one
memory_or : (refusal : Refusal) → (refusal ≡ OutOfMemory) ⊎ (refusal ≡ OutOfMemory → ⊥)
memory_or OutOfMemory = inl refl
memory_or other = inr (λ same. cc)

by_memory : (text : List ℕ) (refusal : Refusal) → (refusal ≡ OutOfMemory) ⊎ (refusal ≡ OutOfMemory → ⊥)
    → (((let read : Result Select Refusal = Err refusal in read) ≡ Err OutOfMemory → ⊥) → Parsed text (Err refusal)) → Answers (parsed text) (Err refusal)
by_memory text refusal (inl lacking) is = inl lacking
by_memory text refusal (inr other) is = inr (parsed-is text (Err refusal) (is (λ same. other cc)))

-- what is parsed is what is computed, but for want of memory
pub parsed-answers : (text : List ℕ) (read : Result Select Refusal) → ((read ≡ Err OutOfMemory → ⊥) → Parsed text read) → Answers (parsed text) read
parsed-answers text (Ok s) is = parsed-is text (Ok s) (is (λ same. cc))
parsed-answers text (Err refusal) is = by_memory text refusal (memory_or refusal) is

-- ---- tokens of small positions

small_key : (key : Option (List ℕ)) → IfSome key (λ key. length key ≤ 1024) → key_fits key ≡ true
small_key None small = refl
small_key (Some key) small = le-leb (length key) 1024 small

small_fits : (position : Position) → IsSmallPosition position → fits_token position ≡ true
small_fits position small = and_from _ _ (small_key position.key small.key) (and_from _ _ (le-leb 1 (length position.name) small.some) (le-leb (length position.name) 1024 small.few))

token_some : (digest : List ℕ) (next : Option Position) → IfSome next IsSmallPosition → is_some (token_at digest next) ≡ is_some next
token_some digest None small = refl
token_some digest (Some position) small = ap (λ b. is_some (cond b (Some (token digest position)) None)) (small_fits position small)

-- over lawful items a token stands exactly where something is left
pub token-next : (digest : List ℕ) (s : Select) (items : ItemEntries) (after : Option Position) → AreLawfulItems items → is_some (token_at digest (next_of s items after)) ≡ is_some (next_of s items after)
token-next digest s items after lawful = token_some digest (next_of s items after) (next-small s items after lawful)
