-- Turns of a workload, one after the other.
use Rattle.std.proofs.Common.{◌≡◌, ℕ, suc, ◌+◌, ◌-◌, ◌*◌, ◌<◌, ◌≤◌, List, [], ◌∷◌, ◌++◌, sym, ap, ◌∙◌, arith, append_assoc, append-nil}
use Rattle.std.proofs.lemmas.Grind.{flat_map-append}
use Rattle.sdb_script.specs.Events.{Event, Commit}
use Rattle.sdb_script.specs.Spelled.{spelled, script_of}
use Rattle.sdb_script.specs.Workload.{Drawn, after_turn, asked, preparation, turn_of, turns, workload}
use Rattle.sdb_script.specs.declared.operation.Turn.{Turn}

turns-next : (many before state : ℕ) (turn : Turn) (next : ℕ) → (turn, next) ≡ turn_of state
    → script_of (turns (suc many) before state)
    ≡ (spelled (asked turn.conn turn.operation) ++ script_of (after_turn (before + 1))) ++ script_of (turns many (before + 1) next)
unfolding turns
turns-next many before state turn next drawn =
    let told : Drawn → List Event = λ d. asked d.0.conn d.0.operation ∷ after_turn (before + 1) in
    ap (λ (d : Drawn). script_of (told d ++ turns many (before + 1) d.1)) (sym drawn)
    ∙ flat_map-append spelled (told (turn, next)) (turns many (before + 1) next)

-- one turn more
pub turns-more : (old mid new all : List ℕ) (many before state : ℕ) (turn : Turn) (next : ℕ) → before < many → (turn, next) ≡ turn_of state
    → mid ≡ old ++ spelled (asked turn.conn turn.operation) → new ≡ mid ++ script_of (after_turn (before + 1))
    → old ++ script_of (turns (many - before) before state) ≡ all
    → new ++ script_of (turns (many - (before + 1)) (before + 1) next) ≡ all
turns-more old mid new all many before state turn next inside drawn asks after so_far =
    let left = many - (before + 1) in
    let some : many - before ≡ suc left = omega arith in
    let request = spelled (asked turn.conn turn.operation) in
    let rest = script_of (turns left (before + 1) next) in
    ap (λ l. l ++ rest) (after ∙ ap (λ l. l ++ script_of (after_turn (before + 1))) asks)
    ∙ ap (λ l. l ++ rest) (append_assoc old request (script_of (after_turn (before + 1))))
    ∙ append_assoc old (request ++ script_of (after_turn (before + 1))) rest
    ∙ ap (λ l. old ++ l) (sym (turns-next left before state turn next drawn))
    ∙ ap (λ n. old ++ script_of (turns n before state)) (sym some)
    ∙ so_far

-- no turn is left
pub turns-done : (now all : List ℕ) (many before state : ℕ) → many ≤ before → now ++ script_of (turns (many - before) before state) ≡ all → now ≡ all
unfolding turns
turns-done now all many before state past so_far =
    let none : many - before ≡ 0 = omega arith in
    sym (append-nil now) ∙ ap (λ n. now ++ script_of (turns n before state)) (sym none) ∙ so_far

pub workload-parts : (n : ℕ) → (script_of preparation ++ script_of (turns (100 * n) 0 n)) ++ spelled Commit ≡ workload n
workload-parts n =
    ap (λ l. (script_of preparation ++ script_of (turns (100 * n) 0 n)) ++ l) (sym (append-nil (spelled Commit)))
    ∙ ap (λ l. l ++ script_of (Commit ∷ [])) (sym (flat_map-append spelled preparation (turns (100 * n) 0 n)))
    ∙ sym (flat_map-append spelled (preparation ++ turns (100 * n) 0 n) (Commit ∷ []))
