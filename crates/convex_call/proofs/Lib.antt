-- Laws on the room laid down, on its parts, and on the call.
mod PartLaws
mod RoundLaws
mod CallLaws
