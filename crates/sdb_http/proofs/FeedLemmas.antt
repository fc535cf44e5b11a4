-- What a feed has given and can give, as calls come.
use Rattle.std.proofs.Common.{◌≡◌, ℕ, Bool, true, false, List, [], ◌∷◌, ◌++◌, Option, Some, None, MatchOption, IfNone, IfOk, OnErr, OnSome, Result, Ok, Err, ◌+◌, ◌<◌, ◌≤◌, length, drop, arith, length-append, length-drop, if◌then◌else◌, refl, sym, ap, ◌∙◌, subst, inl, inr}
use Rattle.sdb_http.specs.Feeds.{AreAll, Back, Call, GoesBack, HasNone, Pushed, Reads, ReadsCalls, StandsFor, State, Takes, Took, before_push, can_go_back, empty_feed, given, held_after, joined, left, pushed, work}
use Rattle.sdb_http.specs.declared.fault.HttpFault.{HttpFault}
use Rattle.sdb_base.specs.declared.memory.OutOfMemory.{OutOfMemory}
use Rattle.sdb_http.specs.declared.message.Message.{Message}
use Rattle.sdb_http.specs.Inside.{reply_of, taken}
use Rattle.sdb_http.specs.Heads.{Verdict}
use Rattle.sdb_http.specs.Messages.{HasHead, IsFront, Reply, Seen, head_limit, is_last, trim}
use Rattle.sdb_http.proofs.FrontLemmas.{IsFront-append, IsFront-from_trim, IsFront-trim, IsFront-unique}
use Rattle.sdb_http.proofs.TrimLemmas.{length-trim, trim-append, trim-trim}

-- bytes that come later are held, or dropped where the reading has ended
pub Reads-append : (bytes more : List ℕ) (replies : List Reply) (held : List ℕ) (ended : Bool) → Reads bytes replies held ended → Reads (bytes ++ more) replies (held_after held ended more) ended
Reads-append bytes more [] held ended (is, live) =
    (trim-append bytes more ∙ (ap (λ (h : List ℕ). trim (h ++ more)) is ∙ rw live refl), live)
Reads-append bytes more (reply ∷ replies) held ended (rest, front, inl (last, none, empty, over)) =
    (rest ++ more, IsFront-append bytes more reply rest front, inl (last, none, rw over refl, over))
Reads-append bytes more (reply ∷ replies) held ended (rest, front, inr (goes, reads)) =
    (rest ++ more, IsFront-append bytes more reply rest front, inr (goes, Reads-append rest more replies held ended reads))

take_by : (bytes : List ℕ) (reply : Reply) (rest : List ℕ) (last : Bool) → is_last reply ≡ last → IsFront bytes reply rest → Reads bytes (reply ∷ []) (if last then [] else trim rest) last
take_by bytes reply rest true e front = (rest, front, inl (e, refl, refl, refl))
take_by bytes reply rest false e front = (rest, front, inr (e, (refl, refl)))

-- a reply that is taken comes after those before it
pub Reads-take : (bytes : List ℕ) (replies : List Reply) (held : List ℕ) (reply : Reply) (rest : List ℕ) → Reads bytes replies held false → IsFront held reply rest → Reads bytes (replies ++ reply ∷ []) (if is_last reply then [] else trim rest) (is_last reply)
Reads-take bytes [] held reply rest (is, live) front =
    take_by bytes reply rest (is_last reply) refl (IsFront-from_trim bytes reply rest (subst (λ (h : List ℕ). IsFront h reply rest) (sym is) front))
Reads-take bytes (first ∷ replies) held reply rest (after, front, inl (last, none, empty, over)) next = absurd cc
Reads-take bytes (first ∷ replies) held reply rest (after, front, inr (goes, reads)) next =
    (after, front, inr (goes, Reads-take after replies held reply rest reads next))

-- ---- calls

pub StandsFor-new : StandsFor empty_feed []
StandsFor-new = record { now = (refl, refl); back = refl }

pub StandsFor-push : (s : State) (past : List Call) (piece : List ℕ) → StandsFor s past → StandsFor (pushed s piece) (Pushed piece ∷ past)
StandsFor-push s past piece h = record {
  now = Reads-append (joined (left past)) piece (given (left past)) s.held s.ended h.now;
  back = (refl, h.now);
}

pub StandsFor-take : (old new : State) (answer : Option Reply) (past : List Call) → Takes old answer new → StandsFor old past → StandsFor new (Took answer ∷ past)
StandsFor-take old new None past (same, none) h =
    subst (λ (s : State). StandsFor s (Took None ∷ past)) (sym same) (record { now = h.now; back = h.back })
StandsFor-take old new (Some reply) past (live, rest, front, is) h =
    let reads : Reads (joined (left past)) (given (left past)) old.held false = subst (λ (e : Bool). Reads (joined (left past)) (given (left past)) old.held e) live h.now in
    subst (λ (s : State). StandsFor s (Took (Some reply) ∷ past)) (sym is) (record { now = Reads-take (joined (left past)) (given (left past)) old.held reply rest reads front; back = h.back })

back_by : (new : State) (before : Option (List ℕ × Bool)) (past : List Call) → MatchOption before ⊥ (λ b. new ≡ record { held = b.0; ended = b.1; before = None }) → MatchOption before (can_go_back past ≡ false) (λ b. (can_go_back past ≡ true) × ReadsCalls (before_push (left past)) b.0 b.1) → StandsFor new (Back ∷ past)
back_by new None past goes h = absurd goes
back_by new (Some b) past goes h = subst (λ (s : State). StandsFor s (Back ∷ past)) (sym goes) (record { now = h.1; back = refl })

pub StandsFor-back : (old new : State) (past : List Call) → GoesBack old new → StandsFor old past → StandsFor new (Back ∷ past)
StandsFor-back old new past goes h = back_by new old.before past goes h.back

-- where a take finds nothing, the replies so far are all
pub AreAll-from_none : (old new : State) (past : List Call) → Takes old None new → StandsFor old past → AreAll (joined (left past)) (given (left past))
AreAll-from_none old new past (same, none) h = (old.held, old.ended, h.now, none)

-- ---- one reading

none_before : (bytes held : List ℕ) (ended : Bool) (reply : Reply) (rest : List ℕ) → Reads bytes [] held ended → (ended ≡ false → HasNone held) → IsFront bytes reply rest → ⊥
none_before bytes held ended reply rest (is, live) none front =
    none live reply rest (subst (λ (h : List ℕ). IsFront h reply rest) is (IsFront-trim bytes reply rest front))

pub one_list : (bytes : List ℕ) (xs ys : List Reply) → AreAll bytes xs → AreAll bytes ys → xs ≡ ys
one_list bytes [] [] x y = refl
one_list bytes [] (b ∷ ys) (held, ended, reads, none) (held', ended', (rest, front, more), none') = absurd (none_before bytes held ended b rest reads none front)
one_list bytes (a ∷ xs) [] (held, ended, (rest, front, more), none) (held', ended', reads, none') = absurd (none_before bytes held' ended' a rest reads none' front)
one_list bytes (a ∷ xs) (b ∷ ys) (held, ended, (rest, front, inl (last, empty, gone, over)), none) (held', ended', (rest', front', inl (last', empty', gone', over')), none') =
    let same = (IsFront-unique bytes a b rest rest' front front').0 in cc
one_list bytes (a ∷ xs) (b ∷ ys) (held, ended, (rest, front, inl (last, empty, gone, over)), none) (held', ended', (rest', front', inr (goes, reads)), none') =
    let same = ap is_last (IsFront-unique bytes a b rest rest' front front').0 in absurd cc
one_list bytes (a ∷ xs) (b ∷ ys) (held, ended, (rest, front, inr (goes, reads)), none) (held', ended', (rest', front', inl (last, empty, gone, over)), none') =
    let same = ap is_last (IsFront-unique bytes a b rest rest' front front').0 in absurd cc
one_list bytes (a ∷ xs) (b ∷ ys) (held, ended, (rest, front, inr (goes, reads)), none) (held', ended', (rest', front', inr (goes', reads')), none') =
    let unique = IsFront-unique bytes a b rest rest' front front' in
    let same = unique.0 in
    let rests = unique.1 goes in
    let others = one_list rest xs ys (held, ended, reads, none) (held', ended', subst (λ (r : List ℕ). Reads r ys held' ended') (sym rests) reads', none') in cc

-- ---- what a take says beside its answer

pub all_taken : (old new : State) (answer : Option (Result Message HttpFault)) (past : List Call) → Takes old (taken answer) new → StandsFor old past → IfNone answer (AreAll (joined (left past)) (given (left past)))
all_taken old new None past takes h = AreAll-from_none old new past takes h
all_taken old new (Some reply) past takes h = tt

rest-shorter : (bytes : List ℕ) (m : Seen) (rest : List ℕ) → IsFront bytes (Ok m) rest → length rest < length bytes
unfolding IsFront
rest-shorter bytes m rest (last, shape, head, body) =
    let sizes : length (drop (last + 1) (trim bytes)) ≡ length body.body + length rest = ap length body.cut ∙ length-append body.body rest in
    omega (arith, sizes, length-drop (last + 1) (trim bytes), head.ends_at.within, length-trim bytes)

falls_by : (held : List ℕ) (reply : Reply) (rest : List ℕ) → IsFront held reply rest → work (record { held = if is_last reply then [] else trim rest; ended = is_last reply; before = None }) < length held + 1
falls_by held (Err fault) rest front = omega arith
falls_by held (Ok m) rest front = by_close m.close (rest-shorter held m rest front)
  where
    by_close : (close : Bool) → length rest < length held → (if close then 0 else (length (if close then [] else trim rest) + 1)) < length held + 1
    by_close true less = omega arith
    by_close false less = omega (arith, length-trim rest)

pub work-falls : (old new : State) (answer : Option (Result Message HttpFault)) → Takes old (taken answer) new → OnSome answer (work new < work old)
work-falls old new None takes = tt
work-falls old new (Some reply) (live, rest, front, is) =
    rw (is, live) (falls_by old.held (reply_of reply) rest front)

keeps_by : (old new : State) (answer : Option Reply) → Takes old answer new → new.before ≡ old.before
keeps_by old new None (same, none) = ap (λ (s : State). s.before) same
keeps_by old new (Some reply) (live, rest, front, is) = ap (λ (s : State). s.before) is

pub keeps-before : (old new : State) (result : Result (Option (Result Message HttpFault)) OutOfMemory) → IfOk result (λ answer. Takes old (taken answer) new) → OnErr result (new ≡ old) → new.before ≡ old.before
keeps-before old new (Ok answer) takes same = keeps_by old new (taken answer) takes
keeps-before old new (Err fault) takes same = ap (λ (s : State). s.before) same

-- ---- skipped bytes

pub Reads-trim : (bytes : List ℕ) (replies : List Reply) (held : List ℕ) (ended : Bool) → Reads bytes replies held ended → Reads (trim bytes) replies held ended
Reads-trim bytes [] held ended (is, live) = (trim-trim bytes ∙ is, live)
Reads-trim bytes (reply ∷ replies) held ended (rest, front, more) = (rest, IsFront-trim bytes reply rest front, more)

pub Reads-from_trim : (bytes : List ℕ) (replies : List Reply) (held : List ℕ) (ended : Bool) → Reads (trim bytes) replies held ended → Reads bytes replies held ended
Reads-from_trim bytes [] held ended (is, live) = (sym (trim-trim bytes) ∙ is, live)
Reads-from_trim bytes (reply ∷ replies) held ended (rest, front, more) = (rest, IsFront-from_trim bytes reply rest front, more)

-- ---- replies and bytes

some_by_head : (bytes : List ℕ) (last : ℕ) (v : Verdict) → HasHead bytes last v → 0 < length bytes
some_by_head bytes last v head = let within : last < length bytes = head.ends_at.within in omega arith

-- a reply takes a byte at least
pub IsFront-some : (bytes : List ℕ) (reply : Reply) (rest : List ℕ) → IsFront bytes reply rest → 0 < length (trim bytes)
unfolding IsFront
IsFront-some bytes (Ok m) rest (last, shape, head, body) = some_by_head (trim bytes) last (Ok shape) head
IsFront-some bytes (Err fault) rest (inl (long, is)) = let reached : head_limit ≤ length (trim bytes) = long.reached in omega arith
IsFront-some bytes (Err fault) rest (inr (last, head)) = some_by_head (trim bytes) last (Err fault) head

-- where a reply isn't the last, what follows it is shorter
rest-shorter_by : (bytes : List ℕ) (reply : Reply) (rest : List ℕ) → is_last reply ≡ false → IsFront bytes reply rest → length rest < length bytes
rest-shorter_by bytes (Ok m) rest goes front = rest-shorter bytes m rest front
rest-shorter_by bytes (Err fault) rest goes front = absurd cc

-- replies and held bytes are at most as many as the bytes
pub Reads-length : (bytes : List ℕ) (replies : List Reply) (held : List ℕ) (ended : Bool) → Reads bytes replies held ended → length replies + length held ≤ length bytes
Reads-length bytes [] held ended (is, live) = omega (arith, ap length is, length-trim bytes)
Reads-length bytes (reply ∷ replies) held ended (rest, front, inl (last, none, gone, over)) =
    let some : 0 < length (trim bytes) = IsFront-some bytes reply rest front in
    omega (arith, ap length none, ap length gone, length-trim bytes)
Reads-length bytes (reply ∷ replies) held ended (rest, front, inr (goes, reads)) =
    omega (arith, rest-shorter_by bytes reply rest goes front, Reads-length rest replies held ended reads)

-- a take leaves fewer bytes
fewer_by : (held : List ℕ) (reply : Reply) (rest : List ℕ) (last : Bool) → is_last reply ≡ last → IsFront held reply rest → length (if last then [] else trim rest) < length held
fewer_by held reply rest true e front = let some : 0 < length (trim held) = IsFront-some held reply rest front in omega (arith, length-trim held)
fewer_by held reply rest false e front = omega (arith, rest-shorter_by held reply rest e front, length-trim rest)

pub takes_fewer : (old new : State) (reply : Reply) → Takes old (Some reply) new → length new.held < length old.held
takes_fewer old new reply (live, rest, front, is) =
    let fewer = fewer_by old.held reply rest (is_last reply) refl front in omega (arith, ap (λ (s : State). length s.held) is)

-- nothing stands at the front of no bytes
pub HasNone-empty : (bytes : List ℕ) → trim bytes ≡ [] → HasNone bytes
HasNone-empty bytes empty reply rest front = let some : 0 < length (trim bytes) = IsFront-some bytes reply rest front in absurd (omega (arith, ap length empty))
