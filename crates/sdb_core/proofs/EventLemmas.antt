-- What a piece and background work make of a ledger.
use Rattle.std.proofs.Common.{◌≡◌, inl, inr, ℕ, ◌+◌, ◌≤◌, suc, Bool, true, false, IsTrue, List, [], ◌∷◌, ◌++◌, length, map, Option, None, refl, sym, ap, ◌∙◌, subst, append-nil, length-append, arith}
use Rattle.std.proofs.lemmas.List.{length-map, map-append}
use Rattle.sdb_arrivals.specs.declared.line.Queued.{Queued}
use Rattle.sdb_arrivals.specs.Framing.{arrivals}
use Rattle.sdb_arrivals.specs.Inside.{Pieced}
use Rattle.sdb_arrivals.specs.Queues.{Queues, in_line, with_waiting}
use Rattle.sdb_arrivals.specs.Story.{Answer, Done, Disk, Arrival, Framed, Piece, Work}
use Rattle.sdb_arrivals.specs.Tables.{Connections, Turns}
use Rattle.sdb_disk.specs.Disk.{Files, State, LeavesOnly}
use Rattle.sdb_http.specs.Messages.{Reply}
use Rattle.sdb_journal.specs.Rests.{StandsWith}
use Rattle.sdb_keys.specs.declared.keys.Key.{Key}
use Rattle.sdb_pairs.specs.Accounts.{DomainEntries}
use Rattle.sdb_store.specs.Kept.{Contents, Keeps}
use Rattle.sdb_core.specs.Inside.{Comes, FillsIf, MakesAll, hand_of}
use Rattle.sdb_core.specs.Kept.{Agrees, Holds}
use Rattle.sdb_core.specs.Ledgers.{Ledger, Opening, arrived, durable, number, works}
use Rattle.sdb_core.specs.Prefix.{Stands}

-- ---- a piece

pub agrees_arrived : (line : Queues) (store : Contents) (came : List Arrival) (o : Opening) (l : Ledger) → Agrees line store o l → Agrees (with_waiting line (map in_line came)) store o (arrived came l)
agrees_arrived line store came o l a = record {
  held = a.held;
  waiting = ap (λ (ws : List Queued). ws ++ map in_line came) a.waiting ∙ sym (map-append in_line l.waiting came);
  few = a.few;
  sound = a.sound;
  pending = a.pending;
  accounts = a.accounts;
  resting = a.resting;
}

pub comes_to : (keys : List Key) (conn moment : ℕ) (bytes : List ℕ) (line mid next : Queues) (store after : Contents) (table t : Connections) (first last : ℕ)
    → Pieced keys conn moment bytes line mid table t → FillsIf mid store next after first last → Comes keys conn moment bytes table line store t next after first last
comes_to keys conn moment bytes line mid next store after table t first last p f = record {
  came = p.came;
  refused = f.refused;
  are_read = p.grows.are_read;
  turns = p.turns;
  out = f.out ∙ ap (λ (q : Queues). q.out) p.grows.is;
  journal = f.journal;
  sound = f.sound;
  all = λ o l a. f.all o (arrived p.came l) (subst (λ (q : Queues). Agrees q store o (arrived p.came l)) (sym p.grows.is) (agrees_arrived line store p.came o l a));
  looks = λ o l a. f.looks o (arrived p.came l) (subst (λ (q : Queues). Agrees q store o (arrived p.came l)) (sym p.grows.is) (agrees_arrived line store p.came o l a));
}

length-arrivals : (conn moment before : ℕ) (replies : List Reply) → length (arrivals conn moment before replies) ≡ length replies
length-arrivals conn moment before [] = refl
length-arrivals conn moment before (r ∷ replies) = ap suc (length-arrivals conn moment (before + 1) replies)

came_arrived : (conn moment : ℕ) (bytes : List ℕ) (came : List Framed) (table t : Connections) → Turns (Piece conn moment bytes) Done 0 came table t → t.arrived ≡ table.arrived + length came
came_arrived conn moment bytes came table t (inl a) =
    omega (arith, a.accepts.arrived, ap length a.accepts.comes, length-arrivals a.entry.conn moment a.entry.number a.accepts.replies)
came_arrived conn moment bytes came table t (inr (closed, stands)) =
    omega (arith, ap length stands.0, ap (λ (x : Connections). x.arrived) stands.1)

pub hand_came : (keys : List Key) (conn moment : ℕ) (bytes : List ℕ) (line mid next : Queues) (store after : Contents) (table t : Connections) (first last : ℕ)
    → Pieced keys conn moment bytes line mid table t → FillsIf mid store next after first last → hand_of line ≤ table.arrived → hand_of next ≤ t.arrived
hand_came keys conn moment bytes line mid next store after table t first last p f had =
    let framed : List Framed = map (λ (w : Arrival). w.framed) p.came in
    omega (
      arith,
      had,
      f.hand,
      ap hand_of p.grows.is,
      length-append line.waiting (map in_line p.came),
      length-map p.came in_line,
      length-map p.came (λ (w : Arrival). w.framed),
      came_arrived conn moment bytes framed table t p.turns,
    )

-- ---- background work

work_holds : (line : Queues) (store after : Contents) (before now : State) (o : Opening) (l : Ledger) → store.sound ≡ true → after.sound ≡ true
    → after.accounts ≡ store.accounts → after.pending ≡ store.pending
    → ((accounts : DomainEntries) (n : ℕ) → Keeps store before accounts n None → Keeps after now accounts n None)
    → Holds line store before o l → Holds line after now o l
work_holds line store after before now o l sound still accounts pending keeps h =
    let none : l.undecided ≡ None = (h.keeps.sound sound).0 in
    record {
      agrees = record {
        held = h.agrees.held;
        waiting = h.agrees.waiting;
        few = h.agrees.few;
        sound = still ∙ (sym sound ∙ h.agrees.sound);
        pending = λ t. pending ∙ h.agrees.pending t;
        accounts = λ t. accounts ∙ h.agrees.accounts t;
        resting = h.agrees.resting;
      };
      keeps = subst (λ (u : Option _). Keeps after now (durable o l.groups) (number o l.groups) u) (sym none)
          (keeps (durable o l.groups) (number o l.groups) (subst (λ (u : Option _). Keeps store before (durable o l.groups) (number o l.groups) u) none h.keeps));
    }

work_loses : (line : Queues) (store after : Contents) (before now : State) (o : Opening) (l : Ledger) → store.sound ≡ true → after.sound ≡ false → store.pending ≡ []
    → ((accounts : DomainEntries) (n : ℕ) → Keeps store before accounts n None → Keeps after now accounts n None)
    → Holds line store before o l → Holds line after now o (works Disk l)
work_loses line store after before now o l sound lost pending keeps h =
    let none : l.undecided ≡ None = (h.keeps.sound sound).0 in
    record {
      agrees = record {
        held = h.agrees.held;
        waiting = h.agrees.waiting;
        few = h.agrees.few;
        sound = lost;
        pending = λ (t : false ≡ true). absurd cc;
        accounts = λ (t : false ≡ true). absurd cc;
        resting = λ _. sym (h.agrees.pending (sym h.agrees.sound ∙ sound)) ∙ pending;
      };
      keeps = subst (λ (u : Option _). Keeps after now (durable o l.groups) (number o l.groups) u) (sym none)
          (keeps (durable o l.groups) (number o l.groups) (subst (λ (u : Option _). Keeps store before (durable o l.groups) (number o l.groups) u) none h.keeps));
    }

work_during : (line : Queues) (store : Contents) (before now : State) (o : Opening) (l : Ledger) → store.sound ≡ true
    → ((accounts : DomainEntries) (n : ℕ) → Keeps store before accounts n None → LeavesOnly before now (StandsWith accounts n None))
    → Holds line store before o l → (c : Files) → now.left_since before.moment c → Stands o l c
work_during line store before now o l sound images h c left =
    let none : l.undecided ≡ None = (h.keeps.sound sound).0 in
    subst (λ (u : Option _). StandsWith (durable o l.groups) (number o l.groups) u c) (sym none)
    (images (durable o l.groups) (number o l.groups) (subst (λ (u : Option _). Keeps store before (durable o l.groups) (number o l.groups) u) none h.keeps) c left)

module _ (line : Queues) (items : ℕ) (store after : Contents) (before now : State) (told : Bool) (sound : store.sound ≡ true)
    (keeps : IsTrue told → (accounts : DomainEntries) (n : ℕ) → Keeps store before accounts n None → Keeps after now accounts n None)
    (images : IsTrue told → (accounts : DomainEntries) (n : ℕ) → Keeps store before accounts n None → LeavesOnly before now (StandsWith accounts n None)) where
  -- nothing is lost
  pub work_keeps : (a : Answer) → ((l : Ledger) → works a l ≡ l) → after.sound ≡ true → after.accounts ≡ store.accounts → after.pending ≡ store.pending → MakesAll Work a [] told line store before line after now items items
  work_keeps a stays still accounts pending = record {
    refused = [];
    all = λ t o l h. record {
      holds = subst (λ (k : Ledger). Holds line after now o k) (sym (stays l)) (work_holds line store after before now o l sound still accounts pending (keeps t) h);
      out = sym (append-nil line.out);
      during = λ c left. inl (inl (work_during line store before now o l sound (images t) h c left));
    };
    looks = λ t o l h. omega arith;
  }

  pub work_fails : after.sound ≡ false → store.pending ≡ [] → MakesAll Work Disk [] told line store before line after now items items
  work_fails lost pending = record {
    refused = [];
    all = λ t o l h. record {
      holds = work_loses line store after before now o l sound lost pending (keeps t) h;
      out = sym (append-nil line.out);
      during = λ c left. inl (inl (work_during line store before now o l sound (images t) h c left));
    };
    looks = λ t o l h. omega arith;
  }
