mod MoveKinds
mod Known
mod StoryLaws
