-- What is reported behind the answers to all lines. Assumes nothing.
use Rattle.std.specs.Prelude.{◌≡◌, ℕ, List, [], Some, None, Option}
use Rattle.field.specs.Operations.{Operations}
use Rattle.field.specs.Modulo.{modulo}
use Rattle.field.specs.Octets.{octets}
use Rattle.lines.specs.declared.openings.FieldName.{FieldName}
use Rattle.lines.specs.declared.openings.FieldName.TheVariants.{Prime, Octets}
use Rattle.reports.specs.Reports.{Reports}
use Rattle.profilelog.specs.Hours.{OpenHour}

-- the field with this name
abbrev pub named_field : FieldName → Operations
named_field Prime = modulo 65521
named_field Octets = octets

-- the report on the hour that was opened; nothing where none was
abbrev pub EndsWith : Option OpenHour → List ℕ → Type 0
EndsWith None text = text ≡ []
EndsWith (Some h) text = Reports (named_field h.field) h.system text
