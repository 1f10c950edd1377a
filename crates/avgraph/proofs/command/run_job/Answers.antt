use Rattle.std.proofs.Common.{◌≡◌, ◌∙◌, List, ℕ, length, Ok, Err, ap, subst}
use Rattle.av_base.specs.declared.shapes.Shape.{Shape}
use Rattle.y4m_header.specs.HeaderTexts.{header_text}
use Rattle.y4m_io.specs.Writing.{Writing}
use Rattle.avgraph.specs.Commands.{CreatesFile, CreatesWith}
use Rattle.avgraph.specs.Bounds.{greatest_input}
use Rattle.y4m_header.proofs.LawLemmas.{meaning_pictured}
use Rattle.avgraph.proofs.CommandLemmas.{prepare_refused, create_refused, commands}
use Rattle.avgraph.proofs.command.run_job.Goals as goal

pub returns-in-Err-prepare-clause-commands : goal.returns-in-Err-prepare-clause-commands
returns-in-Err-prepare-clause-commands g c = λ request is.
    prepare_refused greatest_input request (g.H.Host.world c.args.host.now) (g.H.Host.world c.prepare.new.host) c.in-Err-prepare.stop (c.in-Err-prepare.ensures.prepares request is)

pub create-requires : goal.create-requires
create-requires g c = rw c.end.ensures (c.in-Ok-prepare.ensures.prepares c.requires.0 c.requires.1).writable

pub returns-in-Err-create-clause-commands : goal.returns-in-Err-create-clause-commands
returns-in-Err-create-clause-commands g c = λ request is.
    let b = g.H.Host.world c.prepare.new.host in
    let d = g.H.Host.world c.create.new.host in
    create_refused greatest_input request c.in-Ok-prepare.prepared.0 c.in-Ok-prepare.prepared.1 (c.in-Ok-prepare.ensures.prepares request is) d c.in-Err-create.stop
    (subst (λ (n : List ℕ). CreatesFile b d n c.in-Ok-prepare.prepared.1.end (Err c.in-Err-create.stop)) (c.as_str.ensures ∙ is.output)
    (subst (λ (s : Shape). CreatesFile b d c.as_str.result.now s (Err c.in-Err-create.stop)) c.end.ensures c.in-Err-create.ensures.creates))

pub returns-in-Err-create-clause-faults : goal.returns-in-Err-create-clause-faults
returns-in-Err-create-clause-faults g c = rw (← c.in-Ok-prepare.ensures.faults) c.in-Err-create.ensures.faults

pub returns-in-Ok-pass_all-clause-commands : goal.returns-in-Ok-pass_all-clause-commands
returns-in-Ok-pass_all-clause-commands g c = λ request is.
    let b = g.H.Host.world c.prepare.new.host in
    let d = g.H.Host.world c.create.new.host in
    let p = c.in-Ok-prepare.ensures.prepares request is in
    let made = c.in-Ok-create.ensures.creates in
    let creates = subst (λ (n : List ℕ). CreatesWith b d n c.in-Ok-create.writer.id (header_text c.in-Ok-prepare.prepared.1.end)) (c.as_str.ensures ∙ is.output)
    (subst (λ (s : Shape). CreatesWith b d c.as_str.result.now c.in-Ok-create.writer.id (header_text s)) c.end.ensures made.0) in
    let bytes = subst (λ (s : Shape). c.in-Ok-create.writer.bytes ≡ length (header_text s)) c.end.ensures (ap (λ (w : Writing). w.bytes) made.1) in
    commands greatest_input request c.in-Ok-prepare.prepared.0 c.in-Ok-prepare.prepared.1 p d (g.H.Host.world c.pass_all.new.host) c.in-Ok-create.writer
    creates bytes (meaning_pictured p.opens.line c.in-Ok-prepare.prepared.1.shape p.opens.means) (Ok c.in-Ok-pass_all.counts) c.in-Ok-pass_all.ensures.runs

pub returns-clause-commands : goal.returns-clause-commands
returns-clause-commands g c = λ request is.
    let b = g.H.Host.world c.prepare.new.host in
    let d = g.H.Host.world c.create.new.host in
    let p = c.in-Ok-prepare.ensures.prepares request is in
    let made = c.in-Ok-create.ensures.creates in
    let creates = subst (λ (n : List ℕ). CreatesWith b d n c.in-Ok-create.writer.id (header_text c.in-Ok-prepare.prepared.1.end)) (c.as_str.ensures ∙ is.output)
    (subst (λ (s : Shape). CreatesWith b d c.as_str.result.now c.in-Ok-create.writer.id (header_text s)) c.end.ensures made.0) in
    let bytes = subst (λ (s : Shape). c.in-Ok-create.writer.bytes ≡ length (header_text s)) c.end.ensures (ap (λ (w : Writing). w.bytes) made.1) in
    commands greatest_input request c.in-Ok-prepare.prepared.0 c.in-Ok-prepare.prepared.1 p d (g.H.Host.world c.pass_all.new.host) c.in-Ok-create.writer
    creates bytes (meaning_pictured p.opens.line c.in-Ok-prepare.prepared.1.shape p.opens.means) (Err c.in-Err-pass_all.stop) c.in-Err-pass_all.ensures.runs
