-- A life so far: what the loop over its calls keeps.
use Rattle.std.proofs.Common.{◌≡◌, ℕ, ◌+◌, ◌-◌, ◌≤◌, List, [], ◌∷◌, ◌++◌, length, map, take, drop, sym, ap, ◌∙◌, subst, append-nil, arith}
use Rattle.std.proofs.Math.Seq.{take-append-add, drop-append-add}
use Rattle.std.proofs.lemmas.List.{length-take-le, length-append, length-drop, drop_all, map-append, take-append-drop}
use borrow.Rule.Slice.PartMut.{put_mid, post_of}
use Rattle.carriers.specs.Carriers.{Carried}
use Rattle.exchange.specs.declared.record.RunRecord.{RunRecord}
use Rattle.lives.specs.Events.{begins, lives}
use Rattle.store.specs.Creation.{new_book, new_parameters}
use Rattle.book.specs.Moments.{BookEvent, LifeOfBook, answer_at, seen_at, written_by, AreEvents, nothing, then, IsLife}
use Rattle.scripts.specs.Workspace.{Workspace, workspace}
use Rattle.book.specs.LifeSteps.{IsStep}
use Rattle.store.specs.Snapshots.{snapshot_view}
use Rattle.histories.specs.Machines.{book_machine, view_of}
use Rattle.book.specs.declared.life.call.Answer.{Answer}
use Rattle.book.specs.declared.life.call.Call.{Call}
use Rattle.book.specs.declared.life.moment.Moment.{Moment}
use Rattle.store.specs.declared.snapshot.Snapshot.{Snapshot}
use Rattle.book.proofs.Lives.{law_of_plain_books}
use Rattle.store.specs.Plain.{plain, PlainBook}

-- bytes that are written behind others
written_more : (w b : ℕ) (xs ys : List ℕ) → w ≤ length xs → take (w + b) (take w xs ++ ys) ≡ take w xs ++ take b ys
written_more w b xs ys l = ap (λ n. take (n + b) (take w xs ++ ys)) (sym (length-take-le w xs l)) ∙ take-append-add (take w xs) ys b

unwritten_less : (w b : ℕ) (xs ys : List ℕ) → w ≤ length xs → drop (w + b) (take w xs ++ ys) ≡ drop b ys
unwritten_less w b xs ys l = ap (λ n. drop (n + b) (take w xs ++ ys)) (sym (length-take-le w xs l)) ∙ drop-append-add (take w xs) ys b

module _ (jobs mark memory : ℕ) (before : Workspace) where
  -- A book is in a state after calls that have happened, with moments for them; so many answer bytes are written.
  pub record Alive (ks : List Call) (ms : List Moment) (s : PlainBook) (records : List RunRecord) (carrier : Carried) (answers : List ℕ) (written : ℕ) : Type 0 where
    pub events : List BookEvent
    pub happened : AreEvents before ks (map answer_at ms) events (take written answers) (workspace records carrier (drop written answers))
    pub life : LifeOfBook (new_book jobs mark memory) events (map seen_at ms) s
    pub inside : written ≤ length answers

  pub alive_next : {ks : List Call} {ms : List Moment} {s s' : PlainBook} {records is : List RunRecord} {carrier after : Carried} {answers : List ℕ} {written : ℕ}
      → Alive ks ms s records carrier answers written
      → (k : Call) (a : Answer) (rest : List ℕ) (seen : Snapshot)
      → IsStep s (workspace records carrier (drop written answers)) k a s' (workspace is after rest)
      → written_by a ≤ length rest → snapshot_view seen ≡ view_of (book_machine plain) s'
      → Alive (ks ++ k ∷ []) (ms ++ record { answer = a; seen = seen } ∷ []) s' is after (take written answers ++ rest) (written + written_by a)
  alive_next {ks} {ms} {s} {s'} {records} {is} {carrier} {after} {answers} {written} alive k a rest seen p fits shown =
      let moment : Moment = record { answer = a; seen = seen } in
      let more = sym (written_more written (written_by a) answers rest alive.inside) in
      let less = sym (unwritten_less written (written_by a) answers rest alive.inside) in
      record {
        events = alive.events ++ p.event ∷ [];
        happened =
            subst (λ rs. AreEvents before (ks ++ k ∷ []) rs (alive.events ++ p.event ∷ []) (take (written + written_by a) (take written answers ++ rest)) (workspace is after (drop (written + written_by a) (take written answers ++ rest))))
            (sym (map-append answer_at ms (moment ∷ [])))
            (subst (λ bs. AreEvents before (ks ++ k ∷ []) (map answer_at ms ++ a ∷ []) (alive.events ++ p.event ∷ []) bs (workspace is after (drop (written + written_by a) (take written answers ++ rest)))) more
            (subst (λ bs. AreEvents before (ks ++ k ∷ []) (map answer_at ms ++ a ∷ []) (alive.events ++ p.event ∷ []) (take written answers ++ take (written_by a) rest) (workspace is after bs)) less
            (then alive.happened p.happens)));
        life =
            subst (λ vs. LifeOfBook (new_book jobs mark memory) (alive.events ++ p.event ∷ []) vs s') (sym (map-append seen_at ms (moment ∷ [])))
            (subst (λ v. LifeOfBook (new_book jobs mark memory) (alive.events ++ p.event ∷ []) (map seen_at ms ++ v ∷ []) s') (sym shown)
            (lives alive.life p.does));
        inside = omega (arith, fits, length-take-le written answers alive.inside, length-append (take written answers) rest);
      }

  -- at the end the law tells the history
  pub alive_lived : {ks : List Call} {ms : List Moment} {s : PlainBook} {records : List RunRecord} {carrier : Carried} {answers : List ℕ} {written : ℕ} (first : Snapshot)
      → snapshot_view first ≡ view_of (book_machine plain) (new_book jobs mark memory)
      → Alive ks ms s records carrier answers written → IsLife jobs mark memory ks first ms before (workspace records carrier answers)
  alive_lived {s = s} {records = records} {carrier = carrier} {answers = answers} {written = written} first seen alive =
      let law = law_of_plain_books (new_parameters jobs mark memory) in
      let edit_reply = law.1 alive.events _ _ alive.life in
      record {
        events = alive.events;
        bytes = take written answers;
        left = workspace records carrier (drop written answers);
        happened = alive.happened;
        book = s;
        lived = alive.life;
        history = edit_reply.0;
        follows = edit_reply.1;
        created = seen ∙ law.0;
        workspace = ap (workspace records carrier) (sym (take-append-drop written answers));
      }

pub alive_first : (jobs mark memory : ℕ) (records : List RunRecord) (carrier : Carried) (answers : List ℕ) (s : PlainBook) → s ≡ new_book jobs mark memory
    → Alive jobs mark memory (workspace records carrier answers) [] [] s records carrier answers 0
alive_first jobs mark memory records carrier answers s e = rw e (record { events = []; happened = nothing; life = begins; inside = omega arith })

-- the bytes after a write to those that were unwritten
pub behind_all : (w : ℕ) (xs ys : List ℕ) → put_mid w (length xs - w) xs ys ≡ take w xs ++ ys
behind_all w xs ys =
    let none : post_of w (length xs - w) xs ≡ [] = drop_all (length xs - w) (drop w xs) (omega (arith, length-drop w xs)) in
    ap (λ zs. take w xs ++ (ys ++ zs)) none ∙ ap (λ zs. take w xs ++ zs) (append-nil ys)
