pub mod WidgetRects
