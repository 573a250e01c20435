-- The headers of a text, and what a layout asks of it.
use Rattle.std.specs.Prelude.{Bool, true, false}
use Rattle.lines.specs.declared.Part.{Part}
use Rattle.lines.specs.declared.Part.TheVariants.{Ins, Outs}
use Rattle.lines.specs.declared.Kind.{Kind}
use Rattle.lines.specs.declared.Kind.TheVariants.{Recording, Sheet}
use Rattle.headers.specs.declared.Layout.{Layout}
use Rattle.headers.specs.declared.Header.{Header}
use Rattle.headers.specs.declared.Header.TheVariants.{Size, Names, TypeWord, Count}
use Rattle.headers.specs.declared.Seen.{Seen}

-- both of the inputs, or both of the outputs
abbrev pub same_part : Part → Part → Bool
same_part Ins Ins = true
same_part Ins Outs = false
same_part Outs Ins = false
same_part Outs Outs = true

-- two headers are the same
abbrev pub same_header : Header → Header → Bool
same_header (Size p) (Size q) = same_part p q
same_header (Size p) (Names q) = false
same_header (Size p) TypeWord = false
same_header (Size p) Count = false
same_header (Names p) (Size q) = false
same_header (Names p) (Names q) = same_part p q
same_header (Names p) TypeWord = false
same_header (Names p) Count = false
same_header TypeWord (Size q) = false
same_header TypeWord (Names q) = false
same_header TypeWord TypeWord = true
same_header TypeWord Count = false
same_header Count (Size q) = false
same_header Count (Names q) = false
same_header Count TypeWord = false
same_header Count Count = true

-- a recording: `.type fr` is required, inputs may be `-`, outputs are `0` or `1`, any number of them `1`
abbrev pub recording : Layout
recording = record { kind = Recording; typed = true; dashes = true; unread = false; single = false }

-- a sheet: `.type f` is required, inputs may be `-`, outputs are `0` or `1`, exactly one of them `1`
abbrev pub sheet : Layout
sheet = record { kind = Sheet; typed = true; dashes = true; unread = false; single = true }

-- what is asked of a text of a kind
abbrev pub layout_of : Kind → Layout
layout_of Recording = recording
layout_of Sheet = sheet

-- the same layout, the type line being required or not
abbrev pub requiring : Bool → Layout → Layout
requiring b lay = record { kind = lay.kind; typed = b; dashes = lay.dashes; unread = lay.unread; single = lay.single }

-- a header that must stand before the first row and the end mark: `.i` and `.o` always, a name line where the other one stands,
-- `.type` where the layout requires it, `.p` never
abbrev pub asks : Layout → Seen → Header → Bool
asks lay s (Size p) = true
asks lay s (Names Ins) = s.out_names
asks lay s (Names Outs) = s.in_names
asks lay s TypeWord = lay.typed
asks lay s Count = false
