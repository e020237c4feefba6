-- Where nothing outside fails and what a command needs is there, it is carried out, or memory is wanting.
use Rattle.std.proofs.Common.{◌≡◌, ◌⊎◌, ℕ, ◌<◌, ◌≤◌, List, [], length, Some, None, Ok, Err, MatchOption, IfSome, refl, sym, ap, ◌∙◌, subst, inl, inr}
use Rattle.std.specs.Prelude.{Option, unwrap_or}
use Rattle.std.specs.FinMap.{get}
use Rattle.iso_base.specs.Triangles.{Mesh}
use Rattle.iso_base.specs.Volume.{Volume}
use Rattle.byte_streams.specs.Causes.{Rose}
use Rattle.byte_streams.specs.Seen.{Files}
use Rattle.iso_io.specs.Shelves.{Lacks, content}
use Rattle.session.specs.Sessions.{Course, EndsAfter, script_limit}
use Rattle.session.specs.declared.ending.Ending.{Ending}
use Rattle.session.specs.declared.ending.Ending.TheVariants as endings
use Rattle.program.specs.Status.{status_of}
use Rattle.iso_defs.specs.Grid.{Grid}
use Rattle.commands.specs.Generating.{WritesGenerated}
use Rattle.commands.specs.Checks.{Checks, mesh_in, mesh_limit}
use Rattle.point_command.specs.Meaning.{points_given}
use Rattle.commands.specs.Headline.{mesh_given}
use Rattle.command_terms.specs.Outcome.{IsDoneOrWanting, Streams}
use Rattle.commands.specs.Outcome.{Call, Rejects}
use Rattle.commands.specs.Serving.{CanServe, IsCarriedOut, Serves, asked_for}
use Rattle.commands.specs.Sessions.{Asked, RunsSession, StaysShut, answer_of}
use Rattle.command_terms.specs.Volumes.{volume_limit, volume_of}
use Rattle.arguments.specs.Help.{help_text, version_text}
use Rattle.arguments.specs.declared.request.Request.{Request}
use Rattle.arguments.specs.declared.request.Request.TheVariants as requests
use Rattle.mesh_text.specs.declared.format.TwoWayFormat.{TwoWayFormat}
use Rattle.program.specs.declared.answer.Answer.{Answer}
use Rattle.program.specs.declared.answer.Answer.TheVariants as answers
use Rattle.program.specs.declared.answer.Status.TheVariants as statuses
use Rattle.command_terms.proofs.Converted.{converted, not_both, not_long, told}
use Rattle.command_terms.proofs.Told.{at_told, if_told}
use Rattle.commands.proofs.Soaks.{soaked_whole}
use Rattle.commands.proofs.Sure.{sure_replies, sure_soak}

abbrev IsCheckedOrMemory : Answer → Type 0
IsCheckedOrMemory a = (status_of a ≡ statuses.Done) ⊎ (status_of a ≡ statuses.MeshRefused) ⊎ (status_of a ≡ statuses.Memory)

checked : (format : TwoWayFormat) (s : Streams) (a : Answer) (bytes : List ℕ) (m : Mesh) → Checks format s a → s.input.left ≡ Some bytes → length bytes ≤ mesh_limit → mesh_in format bytes ≡ Ok m
    → (Rose s.input.faults s.input_after.faults → ⊥) → (Rose s.output.faults s.output_after.faults → ⊥) → IsCheckedOrMemory a
checked format s answers.Done bytes m h told within gives reads writes = inl refl
checked format s answers.MeshRefused bytes m h told within gives reads writes = inr (inl refl)
checked format s answers.BadWords bytes m h told within gives reads writes = absurd h
checked format s (answers.BadVolume fault) bytes m h told within gives reads writes = absurd h
checked format s answers.InputFault bytes m h told within gives reads writes = absurd (reads h.0)
checked format s answers.InputTooLong bytes m h told within gives reads writes = absurd (not_long mesh_limit bytes within (at_told (λ all. mesh_limit < length all) s.input.left bytes told h.0))
checked format s answers.OutputFault bytes m h told within gives reads writes = absurd (writes h.2.cause)
checked format s answers.Memory bytes m h told within gives reads writes = inr (inr refl)
checked format s answers.ShelfFault bytes m h told within gives reads writes = absurd h
checked format s (answers.BadMesh fault) bytes m h told within gives reads writes = absurd (not_both (mesh_in format bytes) m fault gives (at_told (λ all. mesh_in format all ≡ Err fault) s.input.left bytes told h.1))

abbrev IsRunOrMemory : Call → Answer → Type 0
IsRunOrMemory call a = (status_of a ≡ statuses.Done) ⊎ (status_of a ≡ statuses.Memory) ⊎ ((status_of a ≡ statuses.ShelfFault) × Rose call.store.faults call.store_after.faults)

same_some : (a b : List ℕ) → Some a ≡ Some b → a ≡ b
same_some a b e = cc

-- a file that is told
in_file : (P : List ℕ → Type 0) (o : Option Files) (files : Files) (name bytes : List ℕ) → o ≡ Some files → get files name ≡ Some bytes
    → IfSome o (λ fs. (given : List ℕ) × (get fs name ≡ Some given) × (length given ≤ volume_limit) × P given) → P bytes
in_file P o files name bytes told has h =
    let w = subst (λ (x : Option Files). IfSome x (λ fs. (given : List ℕ) × (get fs name ≡ Some given) × (length given ≤ volume_limit) × P given)) told h in
    subst P (same_some w.0 bytes (sym w.1 ∙ has)) w.3

long_file : (o : Option Files) (files : Files) (name bytes : List ℕ) → o ≡ Some files → get files name ≡ Some bytes → length bytes ≤ volume_limit → IfSome o (λ fs. volume_limit < length (content fs name)) → ⊥
long_file o files name bytes told has within h =
    let w = subst (λ (x : Option Files). IfSome x (λ fs. volume_limit < length (content fs name))) told h in
    let c : content files name ≡ bytes = ap (λ (x : Option (List ℕ)). unwrap_or x []) has in
    not_long volume_limit bytes within (subst (λ (x : List ℕ). volume_limit < length x) c w)

lacking : (o : Option Files) (files : Files) (name bytes : List ℕ) → o ≡ Some files → get files name ≡ Some bytes → Lacks name o → ⊥
lacking o files name bytes told has h = let w : get files name ≡ None = subst (λ (x : Option Files). Lacks name x) told h in absurd cc

by_shelf : (call : Call) {P : Type 0} → Rose call.store.faults call.store_after.faults ⊎ P → (P → ⊥) → IsRunOrMemory call answers.ShelfFault
by_shelf call (inl rose) has = inr (inr (refl, rose))
by_shelf call (inr p) has = absurd (has p)

shut : (asked : Asked) (call : Call) (a : Answer) (files : Files) (bytes : List ℕ) (v : Volume) → StaysShut asked call a
    → call.store.files ≡ Some files → get files asked.name ≡ Some bytes → length bytes ≤ volume_limit → volume_of asked.pad asked.level bytes ≡ Ok v → IsRunOrMemory call a
shut asked call answers.Done files bytes v h told has within gives = absurd h.cause
shut asked call answers.MeshRefused files bytes v h told has within gives = absurd h.cause
shut asked call answers.BadWords files bytes v h told has within gives = absurd h.cause
shut asked call (answers.BadVolume fault) files bytes v h told has within gives =
    absurd (not_both (volume_of asked.pad asked.level bytes) v fault gives (in_file (λ all. volume_of asked.pad asked.level all ≡ Err fault) call.store.files files asked.name bytes told has h.cause))
shut asked call answers.InputFault files bytes v h told has within gives = absurd h.cause
shut asked call answers.InputTooLong files bytes v h told has within gives = absurd (long_file call.store.files files asked.name bytes told has within h.cause)
shut asked call answers.OutputFault files bytes v h told has within gives = absurd h.cause
shut asked call answers.Memory files bytes v h told has within gives = inr (inl refl)
shut asked call answers.ShelfFault files bytes v h told has within gives = by_shelf call h.cause (lacking call.store.files files asked.name bytes told has)
shut asked call (answers.BadMesh fault) files bytes v h told has within gives = absurd h.cause

ended : (s : Course) (ending : Ending) (lines : List (List ℕ)) (script : List ℕ) → EndsAfter s ending lines → s.input.left ≡ Some script → length script ≤ script_limit
    → (Rose s.input.faults s.input_after.faults → ⊥) → (Rose s.world.tape.faults s.world_after.tape.faults → ⊥) → status_of (answer_of ending) ≡ statuses.Done
ended s endings.Done lines script h told within reads writes = refl
ended s endings.InputFault lines script h told within reads writes = absurd (reads h.3)
ended s endings.InputTooLong lines script h told within reads writes =
    absurd (not_long script_limit script within (at_told (λ all. script_limit < length all) s.input.left script told (if_told _ _ s.input.left (λ x p. p.long) h.2)))
ended s endings.OutputFault lines script h told within reads writes = absurd (writes h.0.cause)

sessions : (asked : Asked) (call : Call) (a : Answer) (script : List ℕ) (files : Files) (bytes : List ℕ) (v : Volume) → RunsSession asked call a
    → call.streams.input.left ≡ Some script → length script ≤ script_limit → call.store.files ≡ Some files → get files asked.name ≡ Some bytes → length bytes ≤ volume_limit → volume_of asked.pad asked.level bytes ≡ Ok v
    → (Rose call.streams.input.faults call.streams.input_after.faults → ⊥) → (Rose call.streams.output.faults call.streams.output_after.faults → ⊥) → IsRunOrMemory call a
sessions asked call a script files bytes v (inl h) told within files_told has few gives reads writes = shut asked call a files bytes v h files_told has few gives
sessions asked call a script files bytes v (inr h) told within files_told has few gives reads writes = inl (ap status_of h.answer_is ∙ ended _ h.ending h.lines script h.ends told within reads writes)

generates : (seed : ℕ) (sizes : Grid) (s : Streams) (a : Answer) → WritesGenerated seed sizes s a → (Rose s.output.faults s.output_after.faults → ⊥) → IsDoneOrWanting (status_of a)
generates seed sizes s answers.Done h writes = inl refl
generates seed sizes s answers.MeshRefused h writes = absurd h
generates seed sizes s answers.BadWords h writes = absurd h
generates seed sizes s (answers.BadVolume fault) h writes = absurd h
generates seed sizes s answers.InputFault h writes = absurd h
generates seed sizes s answers.InputTooLong h writes = absurd h
generates seed sizes s answers.OutputFault h writes = absurd (writes h.cause)
generates seed sizes s answers.Memory h writes = inr refl
generates seed sizes s answers.ShelfFault h writes = absurd h
generates seed sizes s (answers.BadMesh fault) h writes = absurd h

served : (request : Request) (call : Call) (a : Answer) → Serves request call a → CanServe request call
    → (Rose call.streams.input.faults call.streams.input_after.faults → ⊥) → (Rose call.streams.output.faults call.streams.output_after.faults → ⊥) → IsCarriedOut request call (status_of a)
served (requests.Points level) call a h can reads writes = converted (points_given level) call.streams a can.0 can.1 h.0 can.2.told can.2.within can.3 reads writes
served (requests.Extract level pad format) call a h can reads writes = converted (mesh_given level pad format) call.streams a can.0 can.1 h.0 can.2.told can.2.within can.3 reads writes
served (requests.Session level pad name bricks pages) call a h can reads writes = (
  sessions (asked_for level pad name bricks pages) call a can.0 can.1 can.2 can.3 h can.4.told can.4.within can.5 can.6 can.7 can.8 reads writes,
  sure_replies (asked_for level pad name bricks pages) call a h,
)
served (requests.Gen seed sizes) call a h can reads writes = generates seed sizes call.streams a h.0.0 writes
served (requests.Soak seed) call a h can reads writes = (soaked_whole seed call a h writes, sure_soak seed call a h)
served requests.Help call a h can reads writes = told help_text call.streams a h.0 writes
served requests.Version call a h can reads writes = told version_text call.streams a h.0 writes
served (requests.Check format) call a h can reads writes = checked format call.streams a can.0 can.1 h.0 can.2.told can.2.within can.3 reads writes

same_request : (a b : Request) → Some a ≡ Some b → a ≡ b
same_request a b e = cc

pub completes : (o : Option Request) (request : Request) (call : Call) (a : Answer) → MatchOption o (Rejects call a) (λ r. Serves r call a) → o ≡ Some request → CanServe request call
    → (Rose call.streams.input.faults call.streams.input_after.faults → ⊥) → (Rose call.streams.output.faults call.streams.output_after.faults → ⊥) → IsCarriedOut request call (status_of a)
completes None request call a h asked can reads writes = absurd cc
completes (Some r) request call a h asked can reads writes =
    served request call a (subst (λ (q : Request). Serves q call a) (same_request r request asked) h) can reads writes
