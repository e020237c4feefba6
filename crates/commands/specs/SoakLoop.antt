-- What the parts of a soak's loop do. No clause of a public call leads here.
use Rattle.std.specs.Prelude.{◌≡◌, ℕ, Bool, true, false, if◌then◌else◌, List, [], ◌∷◌, ◌++◌, Some, Ok}
use Rattle.std.specs.Io.KnownBytes.{Appends}
use Rattle.byte_streams.specs.Causes.{Rose}
use Rattle.byte_streams.specs.Seen.{PutAll, Tape}
use Rattle.iso_base.specs.declared.fault.BenchFault.TheVariants.{Memory}
use Rattle.script.specs.Commands.{read_of}
use Rattle.script.specs.declared.reply.Reply.TheVariants.{Refused}
use Rattle.session.specs.Lines.{LineMeaning}
use Rattle.session.specs.Table.{may_want_memory}
use Rattle.session.specs.Worlds.{World}
use Rattle.session.specs.declared.response.Response.{Response}
use Rattle.session.specs.declared.response.Response.TheVariants.{Line}
use Rattle.commands.specs.Soaking.{SoakBreaks, Soaks}
use Rattle.commands.specs.declared.soaking.Pace.{Pace}
use Rattle.commands.specs.declared.soaking.Pace.TheVariants.{On, Wanting, Fault}

-- whether a response says that memory was wanting
abbrev pub is_want_response : Response → Bool
is_want_response (Line (Refused Memory)) = true
is_want_response response = false

-- whether memory may be wanting for a line
abbrev pub may_want : LineMeaning → Bool
may_want (Ok (Some command)) = may_want_memory command
may_want says = false

-- a reply was written, if it is shown
abbrev pub Shows : Tape → Tape → List ℕ → Bool → Pace → Type 0
Shows old new text is_shown On = PutAll old new (if is_shown then text else [])
Shows old new text is_shown Wanting = ⊥
Shows old new text is_shown Fault = (is_shown ≡ true) × (front : List ℕ) × (back : List ℕ) × (text ≡ front ++ back)
    × Appends old.taken new.taken front × (new.beside ≡ old.beside) × Rose old.faults new.faults

-- one line was run; or memory was wanting for it, and it left everything as it was; or its reply was not written whole
abbrev pub SoaksLine : World → World → List ℕ → Pace → Type 0
SoaksLine w v line On = Soaks w v (line ∷ [])
SoaksLine w v line Wanting = (may_want (read_of line) ≡ true) × Soaks w v []
SoaksLine w v line Fault = SoakBreaks w v (line ∷ [])
