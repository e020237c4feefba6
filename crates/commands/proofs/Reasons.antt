-- The cause of each status, from the outcome.
use Rattle.std.proofs.Common.{◌≡◌, ◌∷◌, codes, ℕ, ◌<◌, ◌≤◌, List, length, true, Some, None, MatchOption, IfSome, refl, sym, ap, ◌∙◌, subst, inl, inr, ℤ}
use Rattle.std.specs.Prelude.{Option}
use Rattle.byte_streams.specs.Seen.{Files}
use Rattle.iso_io.specs.Shelves.{content}
use Rattle.bench_core.specs.Keeping.{Workbench}
use Rattle.std.specs.FinMap.{get}
use Rattle.session.specs.declared.ending.Ending.TheVariants as endings
use Rattle.session.specs.declared.ending.Ending.{Ending}
use Rattle.session.specs.Sessions.{Course, EndsAfter, script_limit}
use Rattle.iso_base.specs.declared.verdict.Verdict.{Verdict}
use Rattle.mesh_text.specs.declared.format.TwoWayFormat.{TwoWayFormat}
use Rattle.arguments.specs.declared.request.Request.{Request}
use Rattle.arguments.specs.declared.request.Request.TheVariants as requests
use Rattle.program.specs.Status.{status_of}
use Rattle.program.specs.declared.answer.VolumeFault.{VolumeFault}
use Rattle.refusals.specs.declared.mesh.MeshFault.{MeshFault}
use Rattle.program.specs.declared.answer.Answer.{Answer}
use Rattle.program.specs.declared.answer.Answer.TheVariants as answers
use Rattle.program.specs.declared.answer.Status.{Status}
use Rattle.program.specs.declared.answer.Status.TheVariants as statuses
use Rattle.commands.specs.Causes.{Asks, HasBadMesh, HasBadVolume, HasBrokenMesh, HasNoFile, HasTooMany}
use Rattle.commands.specs.Checks.{HasVerdict, is_broken}
use Rattle.commands.specs.Headline.{WritesWatertight}
use Rattle.commands.specs.Outcome.{Call, Rejects}
use Rattle.commands.specs.Serving.{Ends, Serves}
use Rattle.commands.proofs.Asking.{asks_extract}
use Rattle.arguments.specs.Words.{extract_of, request_of}
use Rattle.commands.specs.Sessions.{answer_of}
use Rattle.command_terms.specs.Volumes.{volume_limit}
use Rattle.commands.proofs.Soaks.{not_soaked}
use Rattle.command_terms.proofs.Converted.{if_refused}
use Rattle.command_terms.proofs.Statuses.{is_bad_mesh, is_bad_volume, is_done, is_mesh_refused, is_shelf_fault, is_too_long}
use Rattle.command_terms.proofs.Told.{if_told, of_whole}

-- what is asked for, and how it was served
pub asked_and_served : (o : Option Request) (call : Call) (a : Answer) (P : Request → Call → Type 0) → MatchOption o (Rejects call a) (λ r. Serves r call a)
    → (Rejects call a → ⊥) → ((r : Request) → Serves r call a → P r call) → Asks o P call
asked_and_served None call a P h refuse f = absurd (refuse h)
asked_and_served (Some r) call a P h refuse f = (r, refl, f r h)

as_answer : (r : Request) (call : Call) (a b : Answer) → Serves r call a → a ≡ b → Serves r call b
as_answer r call a b h e = subst (λ (x : Answer). Serves r call x) e h

-- ---- each status

in_file : (P Q : List ℕ → Type 0) (o : Option Files) (name : List ℕ) → ((bytes : List ℕ) → P bytes → Q bytes) → IfSome o (λ files. (bytes : List ℕ) × (get files name ≡ Some bytes) × (length bytes ≤ volume_limit) × P bytes)
    → IfSome o (λ files. (bytes : List ℕ) × (get files name ≡ Some bytes) × (length bytes ≤ volume_limit) × Q bytes)
in_file P Q None name f h = tt
in_file P Q (Some files) name f h = (h.0, h.1, h.2, f h.0 h.3)

ends_not : (a : Answer) (ending : Ending) → a ≡ answer_of ending → (answers.Done ≡ a → ⊥) → (answers.InputFault ≡ a → ⊥) → (answers.InputTooLong ≡ a → ⊥) → (answers.OutputFault ≡ a → ⊥) → ⊥
ends_not a endings.Done e p q r s = p (sym e)
ends_not a endings.InputFault e p q r s = q (sym e)
ends_not a endings.InputTooLong e p q r s = r (sym e)
ends_not a endings.OutputFault e p q r s = s (sym e)

served_bad_volume : (r : Request) (call : Call) (f : VolumeFault) → Serves r call (answers.BadVolume f) → HasBadVolume r call
served_bad_volume (requests.Points level) call f h = if_refused _ _ f call.streams.input.left h.0.1
served_bad_volume (requests.Extract level pad format) call f h = if_refused _ _ f call.streams.input.left h.0.1
served_bad_volume (requests.Session level pad name bricks pages) call f (inl h) = in_file _ _ call.store.files name (λ bytes e. (f, e)) h.cause
served_bad_volume (requests.Session level pad name bricks pages) call f (inr h) = absurd (ends_not (answers.BadVolume f) h.ending h.answer_is (λ e. absurd cc) (λ e. absurd cc) (λ e. absurd cc) (λ e. absurd cc))
served_bad_volume (requests.Check format) call f h = absurd h.0
served_bad_volume (requests.Gen seed sizes) call f h = absurd h.0.0
served_bad_volume (requests.Soak seed) call f h = not_soaked seed call (answers.BadVolume f) tt h
served_bad_volume requests.Help call f h = absurd h.0.0
served_bad_volume requests.Version call f h = absurd h.0.0

pub why_bad_volume : (r : Request) (call : Call) (a : Answer) → status_of a ≡ statuses.BadVolume → Serves r call a → HasBadVolume r call
why_bad_volume r call a e h = let w = is_bad_volume a e in served_bad_volume r call w.0 (as_answer r call a (answers.BadVolume w.0) h w.1)

served_bad_mesh : (r : Request) (call : Call) (f : MeshFault) → Serves r call (answers.BadMesh f) → HasBadMesh r call
served_bad_mesh (requests.Points level) call f h = absurd h.0
served_bad_mesh (requests.Extract level pad format) call f h = absurd h.0
served_bad_mesh (requests.Session level pad name bricks pages) call f (inl h) = absurd h.cause
served_bad_mesh (requests.Session level pad name bricks pages) call f (inr h) = absurd (ends_not (answers.BadMesh f) h.ending h.answer_is (λ e. absurd cc) (λ e. absurd cc) (λ e. absurd cc) (λ e. absurd cc))
served_bad_mesh (requests.Check format) call f h = if_told _ _ call.streams.input.left (λ bytes e. (f, e)) h.0.1
served_bad_mesh (requests.Gen seed sizes) call f h = absurd h.0.0
served_bad_mesh (requests.Soak seed) call f h = not_soaked seed call (answers.BadMesh f) tt h
served_bad_mesh requests.Help call f h = absurd h.0.0
served_bad_mesh requests.Version call f h = absurd h.0.0

pub why_bad_mesh : (r : Request) (call : Call) (a : Answer) → status_of a ≡ statuses.BadMesh → Serves r call a → HasBadMesh r call
why_bad_mesh r call a e h = let w = is_bad_mesh a e in served_bad_mesh r call w.0 (as_answer r call a (answers.BadMesh w.0) h w.1)

served_mesh_refused : (r : Request) (call : Call) → Serves r call answers.MeshRefused → HasBrokenMesh r call
served_mesh_refused (requests.Points level) call h = absurd h.0
served_mesh_refused (requests.Extract level pad format) call h = absurd h.0
served_mesh_refused (requests.Session level pad name bricks pages) call (inl h) = absurd h.cause
served_mesh_refused (requests.Session level pad name bricks pages) call (inr h) = absurd (ends_not answers.MeshRefused h.ending h.answer_is (λ e. absurd cc) (λ e. absurd cc) (λ e. absurd cc) (λ e. absurd cc))
served_mesh_refused (requests.Check format) call h =
    of_whole (λ bytes. (v : Verdict) × (is_broken v ≡ true) × HasVerdict format v bytes) call.streams.input.left h.0.2.bytes h.0.2.read.all.whole (h.0.0, h.0.1, h.0.2.verdict)
served_mesh_refused (requests.Gen seed sizes) call h = absurd h.0.0
served_mesh_refused (requests.Soak seed) call h = not_soaked seed call answers.MeshRefused tt h
served_mesh_refused requests.Help call h = absurd h.0.0
served_mesh_refused requests.Version call h = absurd h.0.0

pub why_mesh_refused : (r : Request) (call : Call) (a : Answer) → status_of a ≡ statuses.MeshRefused → Serves r call a → HasBrokenMesh r call
why_mesh_refused r call a e h = served_mesh_refused r call (as_answer r call a answers.MeshRefused h (is_mesh_refused a e))

long_script : (s : Course) (ending : Ending) (lines : List (List ℕ)) → answers.InputTooLong ≡ answer_of ending → EndsAfter s ending lines → IfSome s.input.left (λ script. script_limit < length script)
long_script s endings.Done lines e h = absurd cc
long_script s endings.InputFault lines e h = absurd cc
long_script s endings.InputTooLong lines e h = if_told _ _ s.input.left (λ script p. p.long) h.2
long_script s endings.OutputFault lines e h = absurd cc

-- what has too many bytes, by whether a bench is left
abbrev too_many : Call → List ℕ → Option Workbench → Type 0
too_many call name left = MatchOption left
    (IfSome call.store.files (λ files. volume_limit < length (content files name)))
    (λ _. IfSome call.streams.input.left (λ script. script_limit < length script))

served_too_long : (r : Request) (call : Call) → Serves r call answers.InputTooLong → HasTooMany r call
served_too_long (requests.Points level) call h = h.0.0
served_too_long (requests.Extract level pad format) call h = h.0.0
served_too_long (requests.Session level pad name bricks pages) call (inl h) = subst (too_many call name) (sym h.nothing_left) h.cause
served_too_long (requests.Session level pad name bricks pages) call (inr h) = subst (too_many call name) (sym h.left_is) (long_script _ h.ending h.lines h.answer_is h.ends)
served_too_long (requests.Check format) call h = h.0.0
served_too_long (requests.Gen seed sizes) call h = absurd h.0.0
served_too_long (requests.Soak seed) call h = not_soaked seed call answers.InputTooLong tt h
served_too_long requests.Help call h = absurd h.0.0
served_too_long requests.Version call h = absurd h.0.0

pub why_too_long : (r : Request) (call : Call) (a : Answer) → status_of a ≡ statuses.InputTooLong → Serves r call a → HasTooMany r call
why_too_long r call a e h = served_too_long r call (as_answer r call a answers.InputTooLong h (is_too_long a e))

served_shelf_fault : (r : Request) (call : Call) → Serves r call answers.ShelfFault → HasNoFile r call
served_shelf_fault (requests.Points level) call h = absurd h.0
served_shelf_fault (requests.Extract level pad format) call h = absurd h.0
served_shelf_fault (requests.Session level pad name bricks pages) call (inl h) = h.cause
served_shelf_fault (requests.Session level pad name bricks pages) call (inr h) = absurd (ends_not answers.ShelfFault h.ending h.answer_is (λ e. absurd cc) (λ e. absurd cc) (λ e. absurd cc) (λ e. absurd cc))
served_shelf_fault (requests.Check format) call h = absurd h.0
served_shelf_fault (requests.Gen seed sizes) call h = absurd h.0.0
served_shelf_fault (requests.Soak seed) call h = not_soaked seed call answers.ShelfFault tt h
served_shelf_fault requests.Help call h = absurd h.0.0
served_shelf_fault requests.Version call h = absurd h.0.0

pub why_shelf_fault : (r : Request) (call : Call) (a : Answer) → status_of a ≡ statuses.ShelfFault → Serves r call a → HasNoFile r call
why_shelf_fault r call a e h = served_shelf_fault r call (as_answer r call a answers.ShelfFault h (is_shelf_fault a e))

-- what is refused as bad words has another status
pub not_rejected : (call : Call) (a : Answer) (s : Status) → status_of a ≡ s → (statuses.BadWords ≡ s → ⊥) → Rejects call a → ⊥
not_rejected call a s e other h = other (sym (ap status_of h.answer_is) ∙ e)

-- the headline, for an extraction
shown : (r : Request) (call : Call) (a : Answer) (level : ℤ) (pad : Option ℤ) (format : TwoWayFormat) → r ≡ requests.Extract level pad format → a ≡ answers.Done → Serves r call a
    → WritesWatertight level pad format call.streams
shown r call a level pad format e d h = (subst (λ (q : Request). Serves q call a) e h).2 d

pub same_request : (a b : Request) → Some a ≡ Some b → a ≡ b
same_request a b e = cc

served_headline : (o : Option Request) (call : Call) (a : Answer) (level : ℤ) (pad : Option ℤ) (format : TwoWayFormat) → MatchOption o (Rejects call a) (λ r. Serves r call a)
    → o ≡ Some (requests.Extract level pad format) → status_of a ≡ statuses.Done → WritesWatertight level pad format call.streams
served_headline None call a level pad format h asked done = absurd cc
served_headline (Some r) call a level pad format h asked done = shown r call a level pad format (same_request r (requests.Extract level pad format) asked) (is_done a done) h

pub headline : (words options : List (List ℕ)) (call : Call) (a : Answer) (level : ℤ) (pad : Option ℤ) (format : TwoWayFormat) → Ends words call a
    → words ≡ codes "extract" ∷ options → extract_of options ≡ Some (requests.Extract level pad format) → status_of a ≡ statuses.Done → WritesWatertight level pad format call.streams
headline words options call a level pad format h are asked done =
    served_headline (request_of words) call a level pad format h (ap request_of are ∙ asks_extract options (requests.Extract level pad format) asked) done
