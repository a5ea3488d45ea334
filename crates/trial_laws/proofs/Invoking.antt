-- A client invokes an operation: the program's move is the run's actions. Assumes nothing.
use Prim.Native.Nat.{ℕ, suc, ◌+◌, ◌*◌, ◌<◌, ◌≤◌}
use mathlib.Core.Path.{◌≡◌, refl, sym, ap, ◌∙◌}
use mathlib.Core.Logic.{⊎_elim}
use mathlib.Core.List.{List, [], ◌∷◌, ◌++◌, append-nil}
use mathlib.Core.Bool.{Bool, true, false, cond}
use lib.ListN.{length, get_or, set, length-set}
use lib.Seq.{get_or-set_same, get_or-set_other}
use native.Mathlib.Omega.{arith}
use Rattle.slices.specs.Bytes.{put}
use Rattle.slices.proofs.Laws.{put-length}
use Rattle.replica.specs.declared.Replica.{Replica}
use Rattle.replica.specs.Replica.{Step, zero_replica}
use Rattle.progress.specs.HonestRuns.{World, update, put_one, written}
use Rattle.progress.proofs.Acting.{update_same, update_other}
use Rattle.progress.proofs.OneWay.{invokes, invoke-counted, invoke_43}
use Rattle.trial_core.specs.Trial.{Lent, with_refused, kept_invoke}
use Rattle.trial_core.specs.declared.Lines.{Lines}
use Rattle.trial_laws.specs.TrialRuns.{some_full}
use Rattle.trial_ways.proofs.Parts.{bool_cases, part_put, part_other}
use Rattle.trial_laws.proofs.ClientCalls.{Invoking, Stopping}
use Rattle.trial_ways.proofs.Reached.{Reached, none_current, server_ranged}
use Rattle.trial_ways.proofs.Shows.{ClientAt, Sizes, Shows, trues, trues_few, by_client, replica_set, update_idle}
use Rattle.trial_laws.proofs.Full.{behind}

-- the bytes lent, with other invokes
abbrev pub asked : Lent → List ℕ → Lent
asked b invokes = record { log = b.log; replies = b.replies; invokes = invokes }

-- the world after a client's call q
unfoldable pub called_world : World → ℕ → Step → World
called_world w n q =
    record { server = w.server; replica = update w.replica n q.after.replica; up = put_one w.up n (written q.wrote); down = w.down }

module _ (rs : List Replica) (l : Lines) (b : Lent) (w : World) (S : Shows rs l b w) (R : Reached w) (i : ℕ) (h : i < 8) (q : Step) where
  abbrev n : ℕ
  n = i + 1

  abbrev v : World
  v = called_world w n q

  replicas : (j : ℕ) → j < 8 → get_or (set rs i q.after.replica) j zero_replica ≡ v.replica (j + 1)
  unfolding called_world
  replicas = replica_set rs w.replica i q.after.replica S.sizes.replicas S.replica h

  -- ---- a check stopped the call
  module _ (P : Stopping q) where
    same_line : w.up n ≡ w.up n ++ written q.wrote
    unfolding written
    same_line = rw P.none (sym (append-nil (w.up n)))

    stopped_client : (j : ℕ) → j < 8 → ClientAt l b v j
    unfolding called_world put_one
    stopped_client j g = rw (update_idle w.up n (j + 1) (w.up n ++ written q.wrote) same_line) (S.client j g)

    stopped_sizes : Sizes (set rs i q.after.replica) l b
    stopped_sizes =
        let Z = S.sizes in
        record {
          replicas = length-set rs i q.after.replica ∙ Z.replicas;
          next = Z.next;
          before = Z.before;
          lengths = Z.lengths;
          refused = Z.refused;
          log = Z.log;
          replies = Z.replies;
          invokes = Z.invokes;
        }

    pub stopped_shows : Shows (set rs i q.after.replica) l b v
    unfolding called_world
    stopped_shows = record { sizes = stopped_sizes; replica = replicas; client = stopped_client; bound = S.bound }

  -- ---- an invoke is written
  module _ (P : Invoking (w.replica n) q) (F : some_full w 8 ≡ false) where
    abbrev l2 : Lines
    l2 = with_refused l i

    abbrev b2 : Lent
    b2 = asked b (put b.invokes (i * 43) q.wrote)

    long : length q.wrote ≡ 43
    long = invoke_43 q.wrote P.form

    not_waiting : get_or l.refused i false ≡ false
    not_waiting =
        ⊎_elim
        (λ (t : get_or l.refused i false ≡ true).
        let m = kept_invoke b.invokes i in
        let C = S.client i h in
        let e : invokes (w.up n) ≡ suc (invokes []) = ap invokes (C.waits ∙ ap (λ (x : Bool). cond x (m ∷ []) []) t) ∙ invoke-counted m [] (C.asks t) in
        let z = none_current w R i h P.idle in
        absurd (omega arith))
        (λ (f : get_or l.refused i false ≡ false). f)
        (bool_cases (get_or l.refused i false))

    up_none : w.up n ≡ []
    up_none = (S.client i h).waits ∙ ap (λ (x : Bool). cond x (kept_invoke b.invokes i ∷ []) []) not_waiting

    pub up_own : v.up n ≡ q.wrote ∷ []
    unfolding called_world put_one
    up_own = update_same w.up n n (w.up n ++ written q.wrote) refl ∙ rw (up_none, P.one)

    pub invoke_own : kept_invoke b2.invokes i ≡ q.wrote
    invoke_own = part_put b.invokes q.wrote (i * 43) 43 long (omega (arith, S.sizes.invokes))

    own : ClientAt l2 b2 v i
    unfolding called_world with_refused
    own =
        rw (get_or-set_same l.refused i true false (omega (arith, S.sizes.refused)), invoke_own, up_own)
        (record { way = (S.client i h).way; quiet = (S.client i h).quiet; waits = refl; asks = λ e. P.form })

    other : (j : ℕ) → j < 8 → (j ≡ i → ⊥) → ClientAt l2 b2 v j
    unfolding called_world with_refused put_one
    other j g e =
        rw (
          get_or-set_other l.refused i j true false e,
          part_other b.invokes q.wrote 43 i j 43 (omega (arith, S.sizes.invokes)) (omega (arith, long)) (omega arith) e,
          update_other w.up n (j + 1) (w.up n ++ written q.wrote) (λ x. e (omega arith)),
        )
        (S.client j g)

    sizes : Sizes (set rs i q.after.replica) l2 b2
    unfolding with_refused
    sizes =
        let Z = S.sizes in
        record {
          replicas = length-set rs i q.after.replica ∙ Z.replicas;
          next = Z.next;
          before = Z.before;
          lengths = Z.lengths;
          refused = length-set l.refused i true ∙ Z.refused;
          log = Z.log;
          replies = Z.replies;
          invokes = put-length b.invokes q.wrote (i * 43) (omega (arith, long, Z.invokes)) ∙ Z.invokes;
        }

    -- where no line is full, a client is at most 255 + 32 + 8 behind
    bound : (j : ℕ) → j < 8 → v.server.placed + trues l2.refused ≤ get_or l2.next j 0 + 295
    unfolding called_world with_refused
    bound j g =
        let r = server_ranged w R in
        let t = trues_few (set l.refused i true) in
        let z = length-set l.refused i true ∙ S.sizes.refused in
        let a = behind rs l b w S F j g in
        omega (arith, r.few, r.order)

    pub invoked_shows : Shows (set rs i q.after.replica) l2 b2 v
    unfolding called_world
    invoked_shows = record { sizes = sizes; replica = replicas; client = by_client (ClientAt l2 b2 v) i own other; bound = bound }
