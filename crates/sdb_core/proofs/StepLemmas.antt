-- A step of a core, of every ledger, from what its parts do.
use Rattle.std.proofs.Common.{◌≡◌, inl, ℕ, ◌-◌, Bool, true, false, List, [], Option, refl, sym, ap, ◌∙◌, subst, append-nil, arith}
use Rattle.sdb_arrivals.specs.Queues.{Queues}
use Rattle.sdb_arrivals.specs.Story.{Answer, Done, OutOfMemory, Opened, Piece, Ended, Commit, Work, Arrival}
use Rattle.sdb_arrivals.specs.Tables.{Connections, Turns}
use Rattle.sdb_disk.specs.Disk.{Files, State, Image}
use Rattle.sdb_keys.specs.declared.keys.Key.{Key}
use Rattle.sdb_pairs.specs.Changes.{state}
use Rattle.sdb_record.specs.Journals.{Group}
use Rattle.sdb_store.specs.Kept.{Contents, Keeps}
use Rattle.sdb_core.specs.Inside.{Comes, MakesAll, hand_of}
use Rattle.sdb_core.specs.Kept.{Agrees, View}
use Rattle.sdb_core.specs.Ledgers.{Ledger, Opening, arrived, durable, filled, if_sound, number}
use Rattle.sdb_core.specs.Told.{Steps}

-- this moment is the only one since now
abbrev pub OnlyNow : State → Type 0
OnlyNow s = (c : Files) → s.left_since s.moment c → Image s c

-- a core of these parts
abbrev pub view_of : List Key → Connections → Queues → Contents → View
view_of keys table line store = record { keys = keys; table = table; line = line; store = store }

-- ---- nothing but the table changes

module _ (keys : List Key) (table t : Connections) (line : Queues) (store : Contents) (s : State) (items : ℕ) (only_now : OnlyNow s) where
  pub steps_opened : (conn : ℕ) (a : Answer) → Turns (Opened conn) a (table.arrived - hand_of line) [] table t → Steps (Opened conn) a (view_of keys table line store) (view_of keys t line store) s s items items
  steps_opened conn a turns = record {
    came = [];
    refused = [];
    keys = refl;
    are_read = tt;
    turns = turns;
    all = λ told o l h. record {
      holds = h;
      out = sym (append-nil line.out);
      during = λ c left. inl (inl (h.keeps.images c (only_now c left)));
    };
    looks = λ told o l h. omega arith;
  }

  pub steps_ended : (conn : ℕ) → Turns (Ended conn) Done 0 [] table t → Steps (Ended conn) Done (view_of keys table line store) (view_of keys t line store) s s items items
  steps_ended conn turns = record {
    came = [];
    refused = [];
    keys = refl;
    are_read = tt;
    turns = turns;
    all = λ told o l h. record {
      holds = h;
      out = sym (append-nil line.out);
      during = λ c left. inl (inl (h.keeps.images c (only_now c left)));
    };
    looks = λ told o l h. omega arith;
  }

-- ---- a piece

-- what is kept goes along with the queues
keeps_along : (line : Queues) (store after : Contents) (s : State) (o : Opening) (l k : Ledger) → k.groups ≡ l.groups → k.undecided ≡ l.undecided → k.sound ≡ l.sound
    → after.journal ≡ store.journal → after.sound ≡ store.sound → Agrees line after o k → Keeps store s (durable o l.groups) (number o l.groups) l.undecided
    → Keeps after s (durable o k.groups) (number o k.groups) k.undecided
keeps_along line store after s o l k groups undecided sound journal still a keeps =
    let A = λ (gs : List Group). state (durable o gs) after.pending in
    subst (λ (u : Option Group). Keeps after s (durable o k.groups) (number o k.groups) u) (sym undecided)
    (subst (λ (gs : List Group). Keeps after s (durable o gs) (number o gs) l.undecided) (sym groups) (record {
      number_is = ap (λ j. j.sequence) journal ∙ keeps.number_is;
      images = keeps.images;
      sound = λ t.
          let is : k.sound ≡ true = sym a.sound ∙ t in (
            (keeps.sound (sym still ∙ t)).0,
            a.accounts is ∙ (sym (ap (state (durable o k.groups)) (a.pending is)) ∙ ap A groups),
          );
    }))

same_parts : (b : Bool) (o : Opening) (refused : List Bool) (came : List Arrival) (l : Ledger)
    → ((if_sound b (filled o refused (arrived came l)) (arrived came l)).groups ≡ l.groups)
    × ((if_sound b (filled o refused (arrived came l)) (arrived came l)).undecided ≡ l.undecided)
    × ((if_sound b (filled o refused (arrived came l)) (arrived came l)).sound ≡ l.sound)
same_parts true o refused came l = (refl, refl, refl)
same_parts false o refused came l = (refl, refl, refl)

module _ (keys : List Key) (conn moment : ℕ) (bytes : List ℕ) (table : Connections) (line : Queues) (store : Contents) (s : State) (first last : ℕ) (only_now : OnlyNow s) where
  pub steps_piece : (t : Connections) (next : Queues) (after : Contents) → Comes keys conn moment bytes table line store t next after first last
      → Steps (Piece conn moment bytes) Done (view_of keys table line store) (view_of keys t next after) s s first last
  steps_piece t next after comes = record {
    came = comes.came;
    refused = comes.refused;
    keys = refl;
    are_read = comes.are_read;
    turns = comes.turns;
    all = λ told o l h.
        let k : Ledger = if_sound l.sound (filled o comes.refused (arrived comes.came l)) (arrived comes.came l) in
        let same = same_parts l.sound o comes.refused comes.came l in
        let a : Agrees next after o k = comes.all o l h.agrees in
        record {
          holds = record { agrees = a; keeps = keeps_along next store after s o l k same.0 same.1 same.2 comes.journal comes.sound a h.keeps };
          out = comes.out ∙ sym (append-nil line.out);
          during = λ c left. inl (inl (h.keeps.images c (only_now c left)));
        };
    looks = λ told o l h. comes.looks o l h.agrees;
  }

  pub steps_none : (t : Connections) (next : Queues) (after : Contents) → t ≡ table → next ≡ line → after ≡ store → last ≡ first
      → Steps (Piece conn moment bytes) OutOfMemory (view_of keys table line store) (view_of keys t next after) s s first last
  steps_none t next after table_is line_is store_is items_is =
      subst (λ (x : Connections). Steps (Piece conn moment bytes) OutOfMemory (view_of keys table line store) (view_of keys x next after) s s first last) (sym table_is)
      (subst (λ (q : Queues). Steps (Piece conn moment bytes) OutOfMemory (view_of keys table line store) (view_of keys table q after) s s first last) (sym line_is)
      (subst (λ (x : Contents). Steps (Piece conn moment bytes) OutOfMemory (view_of keys table line store) (view_of keys table line x) s s first last) (sym store_is) (record {
        came = [];
        refused = [];
        keys = refl;
        are_read = tt;
        turns = (refl, refl);
        all = λ told o l h. record {
          holds = h;
          out = sym (append-nil line.out);
          during = λ c left. inl (inl (h.keeps.images c (only_now c left)));
        };
        looks = λ told o l h. omega (arith, items_is);
      })))

-- ---- a commit, and background work

pub steps_commit : (keys : List Key) (table : Connections) (a : Answer) (line next : Queues) (store after : Contents) (before now : State) (first last : ℕ)
    → MakesAll Commit a [] before.told line store before next after now first last → Steps Commit a (view_of keys table line store) (view_of keys table next after) before now first last
steps_commit keys table a line next store after before now first last makes = record {
  came = [];
  refused = makes.refused;
  keys = refl;
  are_read = tt;
  turns = (refl, refl);
  all = makes.all;
  looks = makes.looks;
}

pub steps_work : (keys : List Key) (table : Connections) (a : Answer) (line : Queues) (store after : Contents) (before now : State) (items : ℕ)
    → MakesAll Work a [] before.told line store before line after now items items → Steps Work a (view_of keys table line store) (view_of keys table line after) before now items items
steps_work keys table a line store after before now items makes = record {
  came = [];
  refused = makes.refused;
  keys = refl;
  are_read = tt;
  turns = (refl, refl);
  all = makes.all;
  looks = makes.looks;
}
