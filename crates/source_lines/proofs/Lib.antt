mod LineLaws
mod HeadLaws
mod Cases
